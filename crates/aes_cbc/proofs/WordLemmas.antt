-- Words as four bytes: what addition and packing do to each byte.
use Rattle.std.proofs.Common.{◌≡◌, ℕ, zero, suc, ◌<◌, ◌/◌, ◌%◌, ◌^◌, List, [], ◌∷◌, get_or, refl, ap, ◌∙◌, arith, bit_xor, slice_index, w32}
use Rattle.std.specs.Int.{to_be_bytes, from_be_bytes}
use Rattle.std.proofs.lemmas.Nat.{xor_shr, xor_mod, be_bytes_4}
use Rattle.aes_cbc.specs.Field.{sbox, inverse_sbox}
use Rattle.aes_cbc.specs.declared.encrypting_tables.TheConstants.{SBOX}
use Rattle.aes_cbc.specs.declared.decrypting_tables.TheConstants.{INVERSE_SBOX}
use Rattle.aes_cbc.proofs.FieldFacts.{SBOX_small, sbox_at, INVERSE_SBOX_small, inverse_sbox_at}

-- the bytes of two words, added
abbrev pub added_bytes : List ℕ → List ℕ → List ℕ
added_bytes a b = bit_xor (slice_index a 0) (slice_index b 0) ∷ bit_xor (slice_index a 1) (slice_index b 1)
    ∷ bit_xor (slice_index a 2) (slice_index b 2) ∷ bit_xor (slice_index a 3) (slice_index b 3) ∷ []

pub to_be_bytes-xor : (a b : ℕ) → to_be_bytes w32 (bit_xor a b) ≡ added_bytes (to_be_bytes w32 a) (to_be_bytes w32 b)
to_be_bytes-xor a b =
    let byte : (k : ℕ) → bit_xor a b / 2 ^ k % 2 ^ 8 ≡ bit_xor (a / 2 ^ k % 2 ^ 8) (b / 2 ^ k % 2 ^ 8) =
    λ k. ap (λ x. x % 2 ^ 8) (xor_shr a b k) ∙ xor_mod (a / 2 ^ k) (b / 2 ^ k) 8 in
    λ i. byte 24 i ∷ byte 16 i ∷ byte 8 i ∷ xor_mod a b 8 i ∷ []

four_small : (a b c d : ℕ) → a < 256 → b < 256 → c < 256 → d < 256
    → (i : ℕ) → get_or (a ∷ b ∷ c ∷ d ∷ []) i 0 < 256
four_small a b c d la lb lc ld zero = la
four_small a b c d la lb lc ld (suc zero) = lb
four_small a b c d la lb lc ld (suc (suc zero)) = lc
four_small a b c d la lb lc ld (suc (suc (suc zero))) = ld
four_small a b c d la lb lc ld (suc (suc (suc (suc i)))) = omega arith

pub to_be_bytes-from_be_bytes : (a b c d : ℕ) → a < 256 → b < 256 → c < 256 → d < 256
    → to_be_bytes w32 (from_be_bytes w32 (a ∷ b ∷ c ∷ d ∷ [])) ≡ a ∷ b ∷ c ∷ d ∷ []
to_be_bytes-from_be_bytes a b c d la lb lc ld =
    let bytes : List ℕ = a ∷ b ∷ c ∷ d ∷ [] in
    be_bytes_4 bytes (from_be_bytes w32 bytes) refl (four_small a b c d la lb lc ld) refl

-- a word of four bytes of the table is four bytes of the S-box
pub SBOX_word : (a b c d : ℕ) → a < 256 → b < 256 → c < 256 → d < 256
    → to_be_bytes w32 (from_be_bytes w32
    (slice_index SBOX a ∷ slice_index SBOX b ∷ slice_index SBOX c ∷ slice_index SBOX d ∷ []))
    ≡ sbox a ∷ sbox b ∷ sbox c ∷ sbox d ∷ []
SBOX_word a b c d la lb lc ld =
    to_be_bytes-from_be_bytes _ _ _ _ (SBOX_small a la) (SBOX_small b lb) (SBOX_small c lc) (SBOX_small d ld)
    ∙ (λ i. sbox_at a la i ∷ sbox_at b lb i ∷ sbox_at c lc i ∷ sbox_at d ld i ∷ [])

-- and likewise for the inverse S-box
pub INVERSE_SBOX_word : (a b c d : ℕ) → a < 256 → b < 256 → c < 256 → d < 256
    → to_be_bytes w32 (from_be_bytes w32
    (slice_index INVERSE_SBOX a ∷ slice_index INVERSE_SBOX b ∷ slice_index INVERSE_SBOX c ∷ slice_index INVERSE_SBOX d ∷ []))
    ≡ inverse_sbox a ∷ inverse_sbox b ∷ inverse_sbox c ∷ inverse_sbox d ∷ []
INVERSE_SBOX_word a b c d la lb lc ld =
    to_be_bytes-from_be_bytes _ _ _ _ (INVERSE_SBOX_small a la) (INVERSE_SBOX_small b lb)
    (INVERSE_SBOX_small c lc) (INVERSE_SBOX_small d ld)
    ∙ (λ i. inverse_sbox_at a la i ∷ inverse_sbox_at b lb i ∷ inverse_sbox_at c lc i ∷ inverse_sbox_at d ld i ∷ [])
