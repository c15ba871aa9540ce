-- The words that a load is made of: ChaCha20 under the seed (docs/SERVICE.md, "The load").
use Rattle.std.specs.Prelude.{ℕ, ◌+◌, ◌*◌, ◌%◌, ◌^◌, List, [], ◌∷◌, ◌++◌}
use Rattle.std.specs.Int.{w32, w64, to_le_bytes}
use Rattle.rand_chacha.specs.ChaCha.{word_at, key_of}

-- the key: the seed as eight bytes, the least significant first, and 24 zeros
unfoldable pub key : ℕ → List ℕ
key seed = to_le_bytes w64 seed ++ (0 ∷ 0 ∷ 0 ∷ 0 ∷ 0 ∷ 0 ∷ 0 ∷ 0 ∷ 0 ∷ 0 ∷ 0 ∷ 0 ∷ 0 ∷ 0 ∷ 0 ∷ 0 ∷ 0 ∷ 0 ∷ 0 ∷ 0 ∷ 0 ∷ 0 ∷ 0 ∷ 0 ∷ [])

-- the word at a position of a stream, which repeats after 2^68 words
unfoldable pub word : ℕ → ℕ → ℕ → ℕ
word seed stream place = word_at 10 (key_of (key seed)) stream (place % 2 ^ 68)

-- the same as four bytes, the least significant first
unfoldable pub cells : ℕ → ℕ → ℕ → List ℕ
cells seed stream place = to_le_bytes w32 (word seed stream place)

-- the group of an item: a word of stream 0 modulo 10
abbrev pub group_of : ℕ → ℕ → ℕ
group_of seed item = word seed 0 item % 10

-- the secret of an item: four words of stream 1
abbrev pub secret_of : ℕ → ℕ → List ℕ
secret_of seed item =
    cells seed 1 (4 * item) ++ (cells seed 1 (4 * item + 1) ++ (cells seed 1 (4 * item + 2) ++ cells seed 1 (4 * item + 3)))
