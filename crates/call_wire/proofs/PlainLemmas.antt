-- Names and paths are texts.
use Rattle.std.proofs.Common.{◌≡◌, ℕ, ◌^◌, ◌<◌, ◌≤◌, ◌==◌, ◌&&◌, Bool, true, false, cond, List, [], ◌∷◌, ◌++◌, codes, decimal, nat_lt, nat_eq, refl, arith}
use Rattle.std.specs.List.{All, list_all, list_any}
use Rattle.std.proofs.lemmas.Bool.{eqb-true}
use Rattle.std.proofs.lemmas.Bool.Decides.{nat_tests}
use Rattle.std.proofs.lemmas.Fmt.{decimal_is_IsNumeral}
use Rattle.std.proofs.lemmas.Map.Views.{Contains-from_any}
use Rattle.std.proofs.lemmas.Str.{is_utf8-from_IsUtf8}
use Rattle.std.proofs.lemmas.Str.Parse.{digit_at}
use Rattle.std.proofs.lemmas.List.Sums.{AllPass-from_list_all}
use Rattle.std.proofs.lemmas.List.Elements.{All-append, All-head, All-tail, All-from_get_or}
use Rattle.dbus_types.specs.Paths.{is_element_code, are_elements, is_object_path}
use Rattle.dbus_marshal.specs.Wire.{is_text}
use Rattle.kr_names.proofs.TextLemmas.{IsPlain, IsText-plain}
use Rattle.secret_calls.specs.Outs.{session_path, prompt_path}

-- bytes of ASCII other than zero are a text
pub false_unless : (b : Bool) → (b ≡ true → ⊥) → b ≡ false
false_unless true never = absurd (never refl)
false_unless false never = refl

pub plain_text : (bytes : List ℕ) → All IsPlain bytes → is_text bytes ≡ true
plain_text bytes plain =
    let is = IsText-plain bytes plain in
    let none : list_any (nat_eq 0) bytes ≡ false = false_unless (list_any (nat_eq 0) bytes) (λ e. is.no_zero (Contains-from_any (λ x y same. eqb-true x y same) 0 bytes e)) in
    rw (is_utf8-from_IsUtf8 bytes is.utf8, none) refl

pub plain_literal : (bytes : List ℕ) → list_all (λ byte. nat_lt 0 byte && nat_lt byte 128) bytes ≡ true → All IsPlain bytes
plain_literal bytes test = λ k d lt. (let passed = AllPass-from_list_all (λ byte. nat_lt 0 byte && nat_lt byte 128) bytes test k d lt in grind (arith, nat_tests))

-- a digit
abbrev IsDigit : ℕ → Type 0
IsDigit byte = (48 ≤ byte) × (byte ≤ 57)

digits : (n : ℕ) → n < 2 ^ 64 → All IsDigit (decimal n)
digits n fits = All-from_get_or IsDigit (decimal n) 0 (λ i lt. (let digit = digit_at (decimal n) i (decimal_is_IsNumeral n fits).0.1 lt in (omega (arith, digit.0), omega (arith, digit.1))))

-- a prefix of ASCII and the digits of a number
numbered : (front : List ℕ) (n : ℕ) → list_all (λ byte. nat_lt 0 byte && nat_lt byte 128) front ≡ true → n < 2 ^ 64 → All IsPlain (front ++ decimal n)
numbered front n test fits =
    All-append IsPlain front (decimal n) (plain_literal front test)
    (λ k d lt. (let digit = digits n fits k d lt in (omega (arith, digit.0), omega (arith, digit.1))))

pub path_plain : (n : ℕ) → n < 2 ^ 64 → All IsPlain (session_path n)
path_plain n fits = numbered (codes "/org/freedesktop/secrets/session/s") n refl fits

pub prompt_plain : (n : ℕ) → n < 2 ^ 64 → All IsPlain (prompt_path n)
prompt_plain n fits = numbered (codes "/org/freedesktop/secrets/prompt/p") n refl fits

-- after a digit, an element of a path continues
one_digit : (c : ℕ) (slash rest : Bool) → IsDigit c → rest ≡ true → (cond (c == 47) slash (is_element_code c && rest)) ≡ true
one_digit c slash rest is so = rw so (grind (arith, nat_tests))

elements : (cs : List ℕ) → All IsDigit cs → are_elements true cs ≡ true
elements [] all = refl
elements (c ∷ cs) all = one_digit c (are_elements false cs) (are_elements true cs) (All-head IsDigit c cs all) (elements cs (All-tail IsDigit c cs all))

pub path_is : (n : ℕ) → n < 2 ^ 64 → is_object_path (session_path n) ≡ true
path_is n fits = elements (decimal n) (digits n fits)

pub prompt_is : (n : ℕ) → n < 2 ^ 64 → is_object_path (prompt_path n) ≡ true
prompt_is n fits = elements (decimal n) (digits n fits)
