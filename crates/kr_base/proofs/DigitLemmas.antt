-- The decimal text of a number is a text.
use Rattle.std.proofs.Common.{◌≡◌, ℕ, ◌<◌, List, get_or, arith, rules, subst}
use Rattle.std.specs.Prelude.{decimal, Contains, IsUtf8}
use Rattle.std.specs.Str.Parse.{AllDigits, digits_value}
use Rattle.std.proofs.lemmas.Fmt.{digits_decimal}
use Rattle.std.proofs.lemmas.List.Elements.{at_from_Contains}
use Rattle.std.proofs.lemmas.Str.Parse.{IsNumeralModel, numerals_by_value, digit_at}
use Rattle.kr_base.specs.Text.{IsText}

own : IsNumeralModel (AllDigits 10) (digits_value 10)
own = numerals_by_value (AllDigits 10) (search rules)

no-zero : (ds : List ℕ) → AllDigits 10 ds → Contains ds 0 → ⊥
no-zero ds digits there =
    let at = at_from_Contains ds 0 there in
    let range = digit_at ds at.0 digits at.1 in
    let zero_is : get_or ds at.0 0 ≡ 0 = at.2 0 in
    omega (arith, range, zero_is)

pub IsText-decimal : (n : ℕ) (bytes : List ℕ) → n < 18446744073709551616 → IsUtf8 bytes → bytes ≡ decimal n → IsText bytes
IsText-decimal n bytes small utf8 is = record {
  utf8 = utf8;
  no_zero = λ there. no-zero (decimal n) (digits_decimal own n small) (subst (λ bs. Contains bs 0) is there);
}
