-- FIPS 197, section 5: AES with a key of 16 bytes, its key schedule, its cipher and the inverse. A
-- word is a number below 2^32 whose highest byte comes first (3.5), and a state is the list of its
-- 16 bytes, column by column (3.4).
use Rattle.std.specs.Prelude.{ℕ, zero, suc, ◌+◌, ◌-◌, ◌*◌, ◌/◌, ◌%◌, List, [], ◌∷◌, ◌++◌, if◌then◌else◌, nat_eq, bit_xor, slice_index}
use Rattle.std.specs.Int.{w32, from_be_bytes, to_be_bytes}
use Rattle.aes_cbc.specs.Field.{product, sbox, inverse_sbox}

-- the byte in row r and column c of a state (3.4)
abbrev pub cell : List ℕ → ℕ → ℕ → ℕ
cell s r c = slice_index s (r + 4 * c)

-- four bytes by their rows
abbrev pub column_of : (ℕ → ℕ) → List ℕ
column_of f = f 0 ∷ f 1 ∷ f 2 ∷ f 3 ∷ []

-- column c of a state
abbrev pub column : List ℕ → ℕ → List ℕ
column s c = column_of (λ r. cell s r c)

-- the state of four columns
abbrev pub state_of : (ℕ → List ℕ) → List ℕ
state_of f = f 0 ++ (f 1 ++ (f 2 ++ f 3))

-- the bytes of a state, each by its row and column
abbrev pub cells_of : (ℕ → ℕ → ℕ) → List ℕ
cells_of f = state_of (λ c. column_of (λ r. f r c))

-- SubBytes (5.1.1)
unfoldable pub sub_bytes : List ℕ → List ℕ
sub_bytes s = cells_of (λ r c. sbox (cell s r c))

-- ShiftRows: row r is shifted by r columns (5.1.2)
unfoldable pub shift_rows : List ℕ → List ℕ
shift_rows s = cells_of (λ r c. cell s r ((c + r) % 4))

-- row r of a column times the matrix whose first row is m, and each further row the one above it, rotated by one to
-- the right (4.3)
abbrev pub mixed_byte : List ℕ → List ℕ → ℕ → ℕ
mixed_byte m a r = bit_xor
    (bit_xor (product (slice_index m ((4 - r) % 4)) (slice_index a 0))
    (product (slice_index m ((5 - r) % 4)) (slice_index a 1)))
    (bit_xor (product (slice_index m ((6 - r) % 4)) (slice_index a 2))
    (product (slice_index m ((7 - r) % 4)) (slice_index a 3)))

-- a column times that matrix (4.3)
abbrev pub mixed_column : List ℕ → List ℕ → List ℕ
mixed_column m a = column_of (mixed_byte m a)

-- the first row of the matrix of MixColumns (5.1.3)
abbrev pub mixing : List ℕ
mixing = 0x02 ∷ 0x03 ∷ 0x01 ∷ 0x01 ∷ []

-- the first row of the matrix of InvMixColumns (5.3.3)
abbrev pub inverse_mixing : List ℕ
inverse_mixing = 0x0e ∷ 0x0b ∷ 0x0d ∷ 0x09 ∷ []

-- MixColumns (5.1.3)
unfoldable pub mix_columns : List ℕ → List ℕ
mix_columns s = state_of (λ c. mixed_column mixing (column s c))

-- the bytes of two states, added: AddRoundKey (5.1.4)
unfoldable pub added : List ℕ → List ℕ → List ℕ
added s k = cells_of (λ r c. bit_xor (cell s r c) (cell k r c))

-- RotWord (5.2)
abbrev pub rotated_word : ℕ → ℕ
rotated_word x = let a = to_be_bytes w32 x in
    from_be_bytes w32 (slice_index a 1 ∷ slice_index a 2 ∷ slice_index a 3 ∷ slice_index a 0 ∷ [])

-- SubWord (5.2)
abbrev pub sub_word : ℕ → ℕ
sub_word x = let a = to_be_bytes w32 x in
    from_be_bytes w32 (column_of (λ r. sbox (slice_index a r)))

-- x^n (4.2)
unfoldable pub power_of_x : ℕ → ℕ
power_of_x zero = 1
power_of_x (suc n) = product 2 (power_of_x n)

-- Rcon[j] = [x^(j - 1), 0, 0, 0] (5.2)
abbrev pub round_constant : ℕ → ℕ
round_constant j = from_be_bytes w32 (power_of_x (j - 1) ∷ 0 ∷ 0 ∷ 0 ∷ [])

-- w[i] from the words before it (5.2)
unfoldable pub next_word : List ℕ → ℕ → ℕ
next_word w i = bit_xor (slice_index w (i - 4)) (if nat_eq (i % 4) 0
    then bit_xor (sub_word (rotated_word (slice_index w (i - 1)))) (round_constant (i / 4))
    else slice_index w (i - 1))

-- word i of the key
abbrev pub key_word : List ℕ → ℕ → ℕ
key_word key i = from_be_bytes w32 (column key i)

-- w[0], .., w[3 + n]
unfoldable pub words_through : List ℕ → ℕ → List ℕ
words_through key zero = key_word key 0 ∷ key_word key 1 ∷ key_word key 2 ∷ key_word key 3 ∷ []
words_through key (suc n) = words_through key n ++ next_word (words_through key n) (n + 4) ∷ []

-- KeyExpansion: the 44 words of the key schedule (5.2)
abbrev pub key_schedule : List ℕ → List ℕ
key_schedule key = words_through key 40

-- the state of four words
abbrev pub words_state : ℕ → ℕ → ℕ → ℕ → List ℕ
words_state a b c d =
    to_be_bytes w32 a ++ (to_be_bytes w32 b ++ (to_be_bytes w32 c ++ to_be_bytes w32 d))

-- the four words from w[4 n] on, as a state
abbrev pub round_key : List ℕ → ℕ → List ℕ
round_key w n = words_state (slice_index w (4 * n)) (slice_index w (4 * n + 1))
    (slice_index w (4 * n + 2)) (slice_index w (4 * n + 3))

-- the state after the first n full rounds (5.1)
unfoldable pub rounds : List ℕ → List ℕ → ℕ → List ℕ
rounds w s zero = added s (round_key w 0)
rounds w s (suc n) = added (mix_columns (shift_rows (sub_bytes (rounds w s n)))) (round_key w (suc n))

-- Cipher (5.1): nine full rounds, and one without MixColumns
unfoldable pub cipher : List ℕ → List ℕ → List ℕ
cipher w s = added (shift_rows (sub_bytes (rounds w s 9))) (round_key w 10)

-- InvShiftRows (5.3.1)
unfoldable pub inverse_shift_rows : List ℕ → List ℕ
inverse_shift_rows s = cells_of (λ r c. cell s r ((c + 4 - r) % 4))

-- InvSubBytes (5.3.2)
unfoldable pub inverse_sub_bytes : List ℕ → List ℕ
inverse_sub_bytes s = cells_of (λ r c. inverse_sbox (cell s r c))

-- InvMixColumns (5.3.3)
unfoldable pub inverse_mix_columns : List ℕ → List ℕ
inverse_mix_columns s = state_of (λ c. mixed_column inverse_mixing (column s c))

-- the state after the first n rounds of the inverse cipher (5.3)
unfoldable pub inverse_rounds : List ℕ → List ℕ → ℕ → List ℕ
inverse_rounds w s zero = added s (round_key w 10)
inverse_rounds w s (suc n) = inverse_mix_columns
    (added (inverse_sub_bytes (inverse_shift_rows (inverse_rounds w s n))) (round_key w (9 - n)))

-- InvCipher (5.3)
unfoldable pub inverse_cipher : List ℕ → List ℕ → List ℕ
inverse_cipher w s =
    added (inverse_sub_bytes (inverse_shift_rows (inverse_rounds w s 9))) (round_key w 0)
