-- SP 800-38A, section 6.2: cipher block chaining, over blocks of 16 bytes.
use Rattle.std.specs.Prelude.{ℕ, zero, suc, ◌/◌, List, [], ◌++◌, take, drop, length}
use Rattle.aes_cbc.specs.Aes.{added, cipher, inverse_cipher, key_schedule}

-- n blocks, enciphered under the key schedule w, chained to the block before them
unfoldable pub enciphered : List ℕ → List ℕ → ℕ → List ℕ → List ℕ
enciphered w before zero bytes = []
enciphered w before (suc n) bytes =
    let block = cipher w (added (take 16 bytes) before) in
    block ++ enciphered w block n (drop 16 bytes)

-- n blocks, deciphered under the key schedule w, chained to the block before them
unfoldable pub deciphered : List ℕ → List ℕ → ℕ → List ℕ → List ℕ
deciphered w before zero bytes = []
deciphered w before (suc n) bytes =
    added (inverse_cipher w (take 16 bytes)) before ++ deciphered w (take 16 bytes) n (drop 16 bytes)

-- CBC encryption of whole blocks under a key and an initialization vector
abbrev pub encrypted : List ℕ → List ℕ → List ℕ → List ℕ
encrypted key vector bytes = enciphered (key_schedule key) vector (length bytes / 16) bytes

-- CBC decryption of whole blocks under a key and an initialization vector
abbrev pub decrypted : List ℕ → List ℕ → List ℕ → List ℕ
decrypted key vector bytes = deciphered (key_schedule key) vector (length bytes / 16) bytes
