-- The salts of a connection's requests: words of ChaCha20 under the seed as its key, two for each request, from the
-- stream with the connection's number (docs/DECISIONS.md, "The salts of a connection").
use Rattle.std.specs.Prelude.{ℕ, ◌+◌, ◌*◌, ◌%◌, ◌^◌, List, ◌++◌}
use Rattle.std.specs.Int.{w32, to_le_bytes}
use Rattle.rand_chacha.specs.ChaCha.{word_at, key_of}

-- a word of a connection's stream as four bytes, the least significant first
unfoldable pub word_of : List ℕ → ℕ → ℕ → List ℕ
word_of key stream place = to_le_bytes w32 (word_at 10 key stream place)

-- two words that follow each other; the stream repeats after 2^68 words
abbrev pub words_at : List ℕ → ℕ → ℕ → List ℕ
words_at key stream place = word_of key stream place ++ word_of key stream ((place + 1) % 2 ^ 68)

-- the salt of the connection's k-th request, the first at 0
abbrev pub salt_of : List ℕ → ℕ → ℕ → List ℕ
salt_of seed conn k = words_at (key_of seed) conn ((2 * k) % 2 ^ 68)

-- the state of a generator of salts: the seed, the connection, and the position of the next word
pub record Salting : Type 0 where
  pub key : List ℕ
  pub stream : ℕ
  pub place : ℕ
