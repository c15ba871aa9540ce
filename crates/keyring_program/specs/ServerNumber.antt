-- The server's number, its GUID in a handshake (docs/DECISIONS.md, "The server's number").
use Rattle.std.specs.Prelude.{ℕ, List, ◌++◌}
use Rattle.hex.specs.Hex.{encode_lower}
use Rattle.rand_chacha.specs.ChaCha.{key_of}
use Rattle.service_hub.specs.connection_worker.specs.Salts.{word_of}

-- the first four words of ChaCha20's stream 0 under the seed as its key, the least significant byte of each first
abbrev pub first_words : List ℕ → List ℕ
first_words seed = word_of (key_of seed) 0 0 ++ word_of (key_of seed) 0 1 ++ word_of (key_of seed) 0 2 ++ word_of (key_of seed) 0 3

-- the server's number: these bytes in hex
unfoldable pub guid : List ℕ → List ℕ
guid seed = encode_lower (first_words seed)
