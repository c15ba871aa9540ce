-- The tables of words are the definitions: what each row of a table's word is, by computing.
use Rattle.std.proofs.Common.{◌≡◌, ℕ, ◌+◌, ◌-◌, ◌%◌, ◌<◌, List, [], ◌∷◌, true, refl, ap, ◌∙◌, eqb, slice_index, w32}
use Rattle.std.proofs.lemmas.Bool.{agree_below}
use Rattle.std.specs.Int.{byte_at, to_be_bytes}
use Rattle.aes_cbc.specs.Field.{terms, remainder, product, sbox, inverse_sbox}
use Rattle.aes_cbc.specs.Aes.{column_of, mixing, inverse_mixing}
use Rattle.aes_cbc.specs.declared.encrypting_tables.TheConstants.{SBOX, MIXED_FIRST, MIXED_SECOND, MIXED_THIRD, MIXED_FOURTH}
use Rattle.aes_cbc.specs.declared.decrypting_tables.TheConstants.{INVERSE_SBOX, UNMIXED_FIRST, UNMIXED_SECOND, UNMIXED_THIRD, UNMIXED_FOURTH}
use Rattle.aes_cbc.proofs.Computing.{each_below}
use Rattle.aes_cbc.proofs.FieldFacts.{sbox_at, inverse_sbox_at}

-- the column that a byte b in row k adds to a mixed column
abbrev pub spread : List ℕ → ℕ → ℕ → List ℕ
spread m k b = column_of (λ r. product (slice_index m ((4 + k - r) % 4)) b)

-- a byte of a table's word, against the products of a box's byte
abbrev row_agrees : List ℕ → List ℕ → List ℕ → ℕ → ℕ → Type 0
row_agrees table box m k r = agree_below
    (λ x. eqb (byte_at (3 - r) (slice_index table x)) (product (slice_index m ((4 + k - r) % 4)) (slice_index box x)))
    (λ _. true) 256 ≡ true

spreads_box : (table box m : List ℕ) (k : ℕ) → row_agrees table box m k 0 → row_agrees table box m k 1
    → row_agrees table box m k 2 → row_agrees table box m k 3
    → (x : ℕ) → x < 256 → to_be_bytes w32 (slice_index table x) ≡ spread m k (slice_index box x)
spreads_box table box m k zeroth first second third x lt =
    let row : (r : ℕ) → row_agrees table box m k r
    → byte_at (3 - r) (slice_index table x) ≡ product (slice_index m ((4 + k - r) % 4)) (slice_index box x) =
    λ r agrees. each_below 256 (λ y. byte_at (3 - r) (slice_index table y)) (λ y. product (slice_index m ((4 + k - r) % 4)) (slice_index box y)) agrees x lt in
    λ i. row 0 zeroth i ∷ row 1 first i ∷ row 2 second i ∷ row 3 third i ∷ []

MIXED_FIRST_box : (x : ℕ) → x < 256 → to_be_bytes w32 (slice_index MIXED_FIRST x) ≡ spread mixing 0 (slice_index SBOX x)
unfolding terms remainder product
MIXED_FIRST_box = spreads_box MIXED_FIRST SBOX mixing 0 refl refl refl refl

pub MIXED_FIRST_at : (x : ℕ) → x < 256 → to_be_bytes w32 (slice_index MIXED_FIRST x) ≡ spread mixing 0 (sbox x)
MIXED_FIRST_at x lt = MIXED_FIRST_box x lt ∙ ap (spread mixing 0) (sbox_at x lt)

MIXED_SECOND_box : (x : ℕ) → x < 256 → to_be_bytes w32 (slice_index MIXED_SECOND x) ≡ spread mixing 1 (slice_index SBOX x)
unfolding terms remainder product
MIXED_SECOND_box = spreads_box MIXED_SECOND SBOX mixing 1 refl refl refl refl

pub MIXED_SECOND_at : (x : ℕ) → x < 256 → to_be_bytes w32 (slice_index MIXED_SECOND x) ≡ spread mixing 1 (sbox x)
MIXED_SECOND_at x lt = MIXED_SECOND_box x lt ∙ ap (spread mixing 1) (sbox_at x lt)

MIXED_THIRD_box : (x : ℕ) → x < 256 → to_be_bytes w32 (slice_index MIXED_THIRD x) ≡ spread mixing 2 (slice_index SBOX x)
unfolding terms remainder product
MIXED_THIRD_box = spreads_box MIXED_THIRD SBOX mixing 2 refl refl refl refl

pub MIXED_THIRD_at : (x : ℕ) → x < 256 → to_be_bytes w32 (slice_index MIXED_THIRD x) ≡ spread mixing 2 (sbox x)
MIXED_THIRD_at x lt = MIXED_THIRD_box x lt ∙ ap (spread mixing 2) (sbox_at x lt)

MIXED_FOURTH_box : (x : ℕ) → x < 256 → to_be_bytes w32 (slice_index MIXED_FOURTH x) ≡ spread mixing 3 (slice_index SBOX x)
unfolding terms remainder product
MIXED_FOURTH_box = spreads_box MIXED_FOURTH SBOX mixing 3 refl refl refl refl

pub MIXED_FOURTH_at : (x : ℕ) → x < 256 → to_be_bytes w32 (slice_index MIXED_FOURTH x) ≡ spread mixing 3 (sbox x)
MIXED_FOURTH_at x lt = MIXED_FOURTH_box x lt ∙ ap (spread mixing 3) (sbox_at x lt)

UNMIXED_FIRST_box : (x : ℕ) → x < 256 → to_be_bytes w32 (slice_index UNMIXED_FIRST x) ≡ spread inverse_mixing 0 (slice_index INVERSE_SBOX x)
unfolding terms remainder product
UNMIXED_FIRST_box = spreads_box UNMIXED_FIRST INVERSE_SBOX inverse_mixing 0 refl refl refl refl

pub UNMIXED_FIRST_at : (x : ℕ) → x < 256 → to_be_bytes w32 (slice_index UNMIXED_FIRST x) ≡ spread inverse_mixing 0 (inverse_sbox x)
UNMIXED_FIRST_at x lt = UNMIXED_FIRST_box x lt ∙ ap (spread inverse_mixing 0) (inverse_sbox_at x lt)

UNMIXED_SECOND_box : (x : ℕ) → x < 256 → to_be_bytes w32 (slice_index UNMIXED_SECOND x) ≡ spread inverse_mixing 1 (slice_index INVERSE_SBOX x)
unfolding terms remainder product
UNMIXED_SECOND_box = spreads_box UNMIXED_SECOND INVERSE_SBOX inverse_mixing 1 refl refl refl refl

pub UNMIXED_SECOND_at : (x : ℕ) → x < 256 → to_be_bytes w32 (slice_index UNMIXED_SECOND x) ≡ spread inverse_mixing 1 (inverse_sbox x)
UNMIXED_SECOND_at x lt = UNMIXED_SECOND_box x lt ∙ ap (spread inverse_mixing 1) (inverse_sbox_at x lt)

UNMIXED_THIRD_box : (x : ℕ) → x < 256 → to_be_bytes w32 (slice_index UNMIXED_THIRD x) ≡ spread inverse_mixing 2 (slice_index INVERSE_SBOX x)
unfolding terms remainder product
UNMIXED_THIRD_box = spreads_box UNMIXED_THIRD INVERSE_SBOX inverse_mixing 2 refl refl refl refl

pub UNMIXED_THIRD_at : (x : ℕ) → x < 256 → to_be_bytes w32 (slice_index UNMIXED_THIRD x) ≡ spread inverse_mixing 2 (inverse_sbox x)
UNMIXED_THIRD_at x lt = UNMIXED_THIRD_box x lt ∙ ap (spread inverse_mixing 2) (inverse_sbox_at x lt)

UNMIXED_FOURTH_box : (x : ℕ) → x < 256 → to_be_bytes w32 (slice_index UNMIXED_FOURTH x) ≡ spread inverse_mixing 3 (slice_index INVERSE_SBOX x)
unfolding terms remainder product
UNMIXED_FOURTH_box = spreads_box UNMIXED_FOURTH INVERSE_SBOX inverse_mixing 3 refl refl refl refl

pub UNMIXED_FOURTH_at : (x : ℕ) → x < 256 → to_be_bytes w32 (slice_index UNMIXED_FOURTH x) ≡ spread inverse_mixing 3 (inverse_sbox x)
UNMIXED_FOURTH_at x lt = UNMIXED_FOURTH_box x lt ∙ ap (spread inverse_mixing 3) (inverse_sbox_at x lt)
