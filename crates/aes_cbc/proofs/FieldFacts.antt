-- The tables of the S-box and of its inverse are the definitions, and each undoes the other.
use Rattle.std.proofs.Common.{◌≡◌, ℕ, zero, suc, ◌<◌, ◌≤◌, Bool, true, false, eqb, refl, ap, ◌∙◌, sym, inl, inr, arith}
use Rattle.std.proofs.lemmas.Bool.{cases_lt, eqb-true, eqb-false}
use Rattle.std.specs.Prelude.{slice_index}
use Rattle.aes_cbc.specs.Field.{terms, remainder, product, inverse_below, inverse, affine, sbox, taken_below, inverse_sbox}
use Rattle.aes_cbc.specs.declared.encrypting_tables.TheConstants.{SBOX}
use Rattle.aes_cbc.specs.declared.decrypting_tables.TheConstants.{INVERSE_SBOX}
use Rattle.aes_cbc.proofs.Computing.{each_below, each_is_byte}

pub sbox_at : (x : ℕ) → x < 256 → slice_index SBOX x ≡ sbox x
unfolding terms remainder product inverse_below inverse affine sbox
sbox_at = each_below 256 (λ x. slice_index SBOX x) (λ x. sbox x) refl

pub SBOX_small : (x : ℕ) → x < 256 → slice_index SBOX x < 256
SBOX_small = each_is_byte 256 (λ x. slice_index SBOX x) refl

pub sbox_small : (x : ℕ) → x < 256 → sbox x < 256
sbox_small x lt = let at = sbox_at x lt in let small = SBOX_small x lt in omega arith

pub INVERSE_SBOX_small : (x : ℕ) → x < 256 → slice_index INVERSE_SBOX x < 256
INVERSE_SBOX_small = each_is_byte 256 (λ x. slice_index INVERSE_SBOX x) refl

INVERSE_SBOX-SBOX : (x : ℕ) → x < 256 → slice_index INVERSE_SBOX (slice_index SBOX x) ≡ x
INVERSE_SBOX-SBOX = each_below 256 (λ x. slice_index INVERSE_SBOX (slice_index SBOX x)) (λ x. x) refl

SBOX-INVERSE_SBOX : (y : ℕ) → y < 256 → slice_index SBOX (slice_index INVERSE_SBOX y) ≡ y
SBOX-INVERSE_SBOX = each_below 256 (λ y. slice_index SBOX (slice_index INVERSE_SBOX y)) (λ y. y) refl

-- the S-box takes no two bytes to the same byte
sbox_injective : (x y : ℕ) → x < 256 → y < 256 → sbox x ≡ sbox y → x ≡ y
sbox_injective x y lx ly e =
    sym (INVERSE_SBOX-SBOX x lx)
    ∙ ap (slice_index INVERSE_SBOX) (sbox_at x lx ∙ e ∙ sym (sbox_at y ly))
    ∙ INVERSE_SBOX-SBOX y ly

chosen : (b : Bool) (n rest x : ℕ) → (b ≡ true → n ≡ x) → (b ≡ false → rest ≡ x)
    → elim b [ true ↦ n | false ↦ rest ] ≡ x
chosen true n rest x when_so when_not = when_so refl
chosen false n rest x when_so when_not = when_not refl

taken_below-sbox : (n x : ℕ) → x < n → n ≤ 256 → taken_below n (sbox x) ≡ x
unfolding taken_below
taken_below-sbox zero x lt le = absurd (omega arith)
taken_below-sbox (suc n) x lt le =
    chosen (eqb (sbox n) (sbox x)) n (taken_below n (sbox x)) x
    (λ same. sbox_injective n x (omega arith) (omega arith) (eqb-true _ _ same))
    (λ other. elim (cases_lt x n) [
      | inl below ↦ taken_below-sbox n x below (omega arith)
      | inr above ↦ let e : n ≡ x = omega arith in absurd (eqb-false _ _ other (ap sbox e))
    ])

pub inverse_sbox-sbox : (x : ℕ) → x < 256 → inverse_sbox (sbox x) ≡ x
unfolding inverse_sbox
inverse_sbox-sbox x lt = taken_below-sbox 256 x lt (omega arith)

pub inverse_sbox_at : (y : ℕ) → y < 256 → slice_index INVERSE_SBOX y ≡ inverse_sbox y
inverse_sbox_at y lt =
    let small = INVERSE_SBOX_small y lt in
    let x : ℕ = slice_index INVERSE_SBOX y in
    sym (inverse_sbox-sbox x small) ∙ ap inverse_sbox (sym (sbox_at x small) ∙ SBOX-INVERSE_SBOX y lt)

pub inverse_sbox_small : (y : ℕ) → y < 256 → inverse_sbox y < 256
inverse_sbox_small y lt = let at = inverse_sbox_at y lt in let small = INVERSE_SBOX_small y lt in omega arith

pub sbox-inverse_sbox : (y : ℕ) → y < 256 → sbox (inverse_sbox y) ≡ y
sbox-inverse_sbox y lt =
    let x : ℕ = slice_index INVERSE_SBOX y in
    ap sbox (sym (inverse_sbox_at y lt)) ∙ sym (sbox_at x (INVERSE_SBOX_small y lt)) ∙ SBOX-INVERSE_SBOX y lt
