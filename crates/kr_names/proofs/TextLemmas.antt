-- The bytes of a text.
use Rattle.std.proofs.Common.{◌≡◌, ℕ, ◌+◌, ◌/◌, ◌<◌, Bool, true, false, cond, ltb, ◌&&◌, List, [], ◌∷◌, refl, subst, ⊎_elim, arith}
use Rattle.std.specs.List.{All}
use Rattle.std.specs.Str.{IsUtf8}
use Rattle.std.proofs.lemmas.Bool.Decides.{nat_tests}
use Rattle.std.proofs.lemmas.List.Elements.{All-append, All-from_recursion, All-contains}
use Rattle.std.proofs.lemmas.Str.{IsUtf8-from_ascii}
use Rattle.std.proofs.lemmas.Str.Ascii.{IsAscii-from_all}
use lib.Utf8.{scalar, scalars, next, encode, encodes, scalar_cases}
use Rattle.kr_base.specs.Text.{IsText}

-- a byte fits
abbrev Fits8 : ℕ → Type 0
Fits8 byte = byte < 256

-- the bytes of a character
by_length : (c : ℕ) → c < 1114112 → (a b d : Bool) → ltb c 128 ≡ a → ltb c 2048 ≡ b → ltb c 65536 ≡ d
    → All Fits8 (cond a (c ∷ []) (cond b ((192 + c / 64) ∷ next c ∷ []) (cond d ((224 + c / 4096) ∷ next (c / 64) ∷ next c ∷ []) ((240 + c / 262144) ∷ next (c / 4096) ∷ next (c / 64) ∷ next c ∷ []))))
by_length c small true b d p q r = All-from_recursion Fits8 (c ∷ []) (grind (arith, nat_tests), tt)
by_length c small false true d p q r = All-from_recursion Fits8 ((192 + c / 64) ∷ next c ∷ []) (grind (arith, nat_tests), (omega arith, tt))
by_length c small false false true p q r =
    All-from_recursion Fits8 ((224 + c / 4096) ∷ next (c / 64) ∷ next c ∷ []) (grind (arith, nat_tests), (omega arith, (omega arith, tt)))
by_length c small false false false p q r =
    All-from_recursion Fits8 ((240 + c / 262144) ∷ next (c / 4096) ∷ next (c / 64) ∷ next c ∷ []) (omega arith, (omega arith, (omega arith, (omega arith, tt))))

encode_fits : (c : ℕ) → scalar c ≡ true → All Fits8 (encode c)
unfolding encode
encode_fits c is =
    let small : c < 1114112 = ⊎_elim (λ low. omega arith) (λ high. high.1) (scalar_cases c is) in
    by_length c small (ltb c 128) (ltb c 2048) (ltb c 65536) refl refl refl

first_of_two : (a b : Bool) → (a && b) ≡ true → a ≡ true
first_of_two true b e = refl
first_of_two false b e = e

second_of_two : (a b : Bool) → (a && b) ≡ true → b ≡ true
second_of_two true b e = e
second_of_two false b e = absurd cc

encodes_fit : (cs : List ℕ) → scalars cs ≡ true → All Fits8 (encodes cs)
encodes_fit [] is = λ k d lt. absurd (omega arith)
encodes_fit (c ∷ cs) is =
    All-append Fits8 (encode c) (encodes cs) (encode_fits c (first_of_two (scalar c) (scalars cs) is)) (encodes_fit cs (second_of_two (scalar c) (scalars cs) is))

pub bytes_fit : (bytes : List ℕ) → IsUtf8 bytes → All (λ byte. byte < 256) bytes
bytes_fit bytes utf8 = subst (λ l. All Fits8 l) utf8.1.1 (encodes_fit utf8.0 utf8.1.0)

-- a byte of ASCII that isn't zero
abbrev pub IsPlain : ℕ → Type 0
IsPlain byte = (0 < byte) × (byte < 128)

-- such bytes are a text
pub IsText-plain : (bytes : List ℕ) → All IsPlain bytes → IsText bytes
IsText-plain bytes plain = record {
  utf8 = IsUtf8-from_ascii bytes (IsAscii-from_all bytes (λ k d lt. (plain k d lt).1));
  no_zero = λ zero. omega (arith, (All-contains IsPlain bytes 0 plain zero).0);
}
