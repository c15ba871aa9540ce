-- The parts of an item.
use Rattle.std.proofs.Common.{◌≡◌, ℕ, ◌^◌, ◌<◌, ◌≤◌, ◌&&◌, nat_lt, List, [], ◌∷◌, ◌++◌, codes, decimal, true, refl, sym, ◌∙◌, arith}
use Rattle.std.specs.List.{All, list_all}
use Rattle.std.specs.List.Sorted.{IsStrictlySortedBy}
use Rattle.std.proofs.lemmas.Bool.Decides.{nat_tests}
use Rattle.std.proofs.lemmas.Fmt.{decimal_is_IsNumeral}
use Rattle.std.proofs.lemmas.Str.Parse.{digit_at}
use Rattle.std.proofs.lemmas.List.Sums.{AllPass-from_list_all}
use Rattle.std.proofs.lemmas.List.Elements.{All-append, All-from_get_or}
use Rattle.kr_base.specs.declared.attributes.AttrValue.{AttrValue}
use Rattle.kr_base.specs.declared.attributes.AttrValue.TheVariants as value
use Rattle.kr_base.specs.Attributes.{IsInOrder, Gathers, gathered}
use Rattle.kr_base.specs.Text.{IsText}
use Rattle.kr_base.proofs.OrderedLemmas.{Gathers-itself}
use Rattle.kr_base.proofs.GatheredLemmas.{is_gathered}
use Rattle.kr_names.proofs.TextLemmas.{IsPlain, IsText-plain}

-- ---- labels

plain_literal : (bytes : List ℕ) → list_all (λ byte. nat_lt 0 byte && nat_lt byte 128) bytes ≡ true → All IsPlain bytes
plain_literal bytes test = λ k d lt. (let passed = AllPass-from_list_all (λ byte. nat_lt 0 byte && nat_lt byte 128) bytes test k d lt in grind (arith, nat_tests))

digits_plain : (n : ℕ) → n < 2 ^ 64 → All IsPlain (decimal n)
digits_plain n fits = All-from_get_or IsPlain (decimal n) 0 (λ i lt. (let digit = digit_at (decimal n) i (decimal_is_IsNumeral n fits).0.1 lt in (omega (arith, digit.0), omega (arith, digit.1))))

-- the label of an item is a text
pub label_text : (n : ℕ) → n < 2 ^ 32 → IsText (codes "item " ++ decimal n)
label_text n fits = IsText-plain (codes "item " ++ decimal n) (All-append IsPlain (codes "item ") (decimal n) (plain_literal (codes "item ") refl) (digits_plain n (omega (arith, fits))))

-- such a literal is a text, and so are the digits of a number
pub plain_text : (bytes : List ℕ) → list_all (λ byte. nat_lt 0 byte && nat_lt byte 128) bytes ≡ true → IsText bytes
plain_text bytes test = IsText-plain bytes (plain_literal bytes test)

pub number_text : (n : ℕ) → n < 2 ^ 64 → IsText (decimal n)
number_text n fits = IsText-plain (decimal n) (digits_plain n fits)

-- ---- attributes

itself : (pairs attributes : List (List ℕ × AttrValue)) → IsInOrder pairs → Gathers pairs attributes → attributes ≡ pairs
itself pairs attributes ordered is = is_gathered pairs attributes is ∙ sym (is_gathered pairs pairs (Gathers-itself pairs ordered))

pub one_ordered : (a : AttrValue) → IsInOrder ((codes "group", a) ∷ [])
unfolding IsStrictlySortedBy
one_ordered a = (tt, tt)

pub two_ordered : (a b : AttrValue) → IsInOrder ((codes "group", a) ∷ (codes "number", b) ∷ [])
unfolding IsStrictlySortedBy
two_ordered a b = ((refl, tt), (tt, tt))

-- attributes in order are gathered as they are
pub one_gathered : (a : List ℕ) (attributes : List (List ℕ × AttrValue)) → Gathers ((codes "group", value.Text a) ∷ []) attributes → attributes ≡ (codes "group", value.Text a) ∷ []
one_gathered a attributes is = itself _ attributes (one_ordered (value.Text a)) is

pub two_gathered : (a b : List ℕ) (attributes : List (List ℕ × AttrValue)) → Gathers ((codes "group", value.Text a) ∷ (codes "number", value.Text b) ∷ []) attributes
    → attributes ≡ (codes "group", value.Text a) ∷ (codes "number", value.Text b) ∷ []
two_gathered a b attributes is = itself _ attributes (two_ordered (value.Text a) (value.Text b)) is
