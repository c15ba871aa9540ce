-- The text of a number, the pair that a search in order finds, and lists that are compared pair by pair.
use Rattle.std.proofs.Common.{◌≡◌, ℕ, ◌+◌, ◌<◌, ◌≤◌, ◌||◌, ◌&&◌, Bool, true, false, cond, List, [], ◌∷◌, Option, Some, None, Result, Ok, Err, refl, sym, ap, subst, ◌∙◌, ⊎_elim, rules, arith, nat_lt, zero, suc, length, map, take, get_or}
use Rattle.std.specs.Prelude.{decimal, IsTrue, ◌↔◌}
use Rattle.std.specs.Cmp.Lexicographic.{slice_cmp, nat_list_cmp_total, pointwise, pointwise_decides}
use Rattle.std.specs.Map.{keys_of}
use Rattle.std.specs.Ordering.{nat_cmp, is_eq}
use Rattle.std.specs.declared.cmp.Ordering.{Ordering}
use Rattle.std.specs.declared.cmp.Ordering.TheVariants.{Less, Equal, Greater}
use Rattle.std.specs.Str.Parse.{ParsesUnsigned, AllDigits, digits_value}
use Rattle.std.proofs.lemmas.Bool.{cases_Bool, ltb-true}
use Rattle.std.proofs.lemmas.Bool.Decides.{nat_tests}
use Rattle.std.proofs.lemmas.Cmp.{eq_by_cmp_equiv, tied_itself}
use Rattle.std.proofs.lemmas.Fmt.{parse-decimal, digits_value-decimal}
use Rattle.std.proofs.lemmas.List.{take_all}
use Rattle.std.proofs.lemmas.Map.{lookup-none}
use Rattle.std.proofs.lemmas.Map.Entries.{none_past_head}
use Rattle.std.proofs.lemmas.Map.Keys.{IsDistinct-from_sorted, sorted_tail}
use Rattle.std.proofs.lemmas.Map.Lookups.{exact_bytes}
use Rattle.std.proofs.lemmas.Str.Parse.{IsNumeralModel, numerals_by_value}
use Rattle.kr_base.specs.Attributes.{is_name, IsInOrder, value_at}
use Rattle.kr_base.specs.declared.attributes.AttrValue.{AttrValue}
use Rattle.attribute_match.specs.Match.{text_of, texts_of, has_pair, is_equal, is_same_pair, number_of}

-- ---- the number of a text

own : IsNumeralModel (AllDigits 10) (digits_value 10)
own = numerals_by_value (AllDigits 10) (search rules)

Equal-is : (o : Ordering) → is_eq o ≡ true → o ≡ Equal
Equal-is Less e = absurd cc
Equal-is Equal e = refl
Equal-is Greater e = absurd cc

same-name : (x y : List ℕ) → is_name x y ≡ true → x ≡ y
same-name x y e = exact_bytes x y (Equal-is (slice_cmp nat_cmp x y) e)

-- a number's text is that of the number
pub number_of-decimal : (n : ℕ) → n < 4294967296 → number_of (decimal n) ≡ Some n
number_of-decimal n small =
    let value : digits_value 10 (decimal n) ≡ n = digits_value-decimal own n (omega (arith, small)) in
    let fits : nat_lt n 4294967296 ≡ true = grind (arith, nat_tests) in
    rw (value, fits, ap is_eq (tied_itself nat_list_cmp_total (decimal n))) refl

-- a text that isn't any number's
pub number_of-none : (text : List ℕ) → ((n : ℕ) → n < 4294967296 → text ≡ decimal n → ⊥) → None ≡ number_of text
number_of-none text other =
    let step : (a b : Bool) → nat_lt (digits_value 10 text) 4294967296 ≡ a → is_name (decimal (digits_value 10 text)) text ≡ b → None ≡ cond (a && b) (Some (digits_value 10 text)) None =
    elim [
      | true ↦ elim [
        | true ↦ λ fits same. absurd (other (digits_value 10 text) (ltb-true _ _ fits) (sym (same-name _ _ same)))
        | false ↦ λ fits same. refl
      ]
      | false ↦ λ b fits same. refl
    ] in
    step _ _ refl refl

pub not_read : {E : Type 0} (text : List ℕ) (e : E) → ParsesUnsigned 32 10 text (Err e) → None ≡ number_of text
not_read {E} text e h = number_of-none text
    (λ n small is.
    let read : Err e ≡ Ok n = parse-decimal 32 n text (Err e) (omega (arith, small)) (omega (arith, small)) is h in
    cc)

pub not_printed : (E : Type 0) (text printed : List ℕ) (m : ℕ) → ParsesUnsigned {E = E} 32 10 text (Ok m) → printed ≡ decimal m → (printed ≡ text → ⊥) → None ≡ number_of text
not_printed E text printed m h e other = number_of-none text
    (λ n small is.
    let found : Result ℕ E = Ok m in
    let wanted : Result ℕ E = Ok n in
    let read : found ≡ wanted = parse-decimal 32 n text found (omega (arith, small)) (omega (arith, small)) is h in
    let same : m ≡ n = cc in
    other (e ∙ ap decimal same ∙ sym is))

pub printed_alike : (E : Type 0) (text printed : List ℕ) (m : ℕ) → ParsesUnsigned {E = E} 32 10 text (Ok m) → printed ≡ decimal m → printed ≡ text → Some m ≡ number_of text
printed_alike E text printed m h e same =
    let fits : m < 4294967296 = omega (arith, h.0.1, h.1) in
    sym (ap number_of (sym same ∙ e) ∙ number_of-decimal m fits)

-- ---- what a search in order finds

-- the value found at a name is shown as the text
abbrev pub shown_at : List ℕ → Option AttrValue → Bool
shown_at text None = false
shown_at text (Some found) = is_name text (text_of found)

or_false : (b : Bool) → (b || false) ≡ b
or_false true = refl
or_false false = refl

pub has_pair-value_at : (name text : List ℕ) (es : List (List ℕ × AttrValue)) → IsInOrder es → has_pair name text es ≡ shown_at text (value_at name es)
has_pair-value_at name text [] s = refl
has_pair-value_at name text (e ∷ es) s =
    let more = has_pair-value_at name text es (sorted_tail (slice_cmp nat_cmp) e.0 (keys_of es) s) in
    ⊎_elim
    (λ at.
    let none : value_at name es ≡ None = lookup-none (is_name name) es (none_past_head (eq_by_cmp_equiv nat_list_cmp_total) name e es (IsDistinct-from_sorted (slice_cmp nat_cmp) (keys_of (e ∷ es)) s) at) in
    let off : has_pair name text es ≡ false = more ∙ ap (shown_at text) none in
    rw (at, off) (or_false (is_name text (text_of e.1))))
    (λ off. rw off more)
    (cases_Bool (is_name name e.0))

-- ---- lists that are compared pair by pair

both-true : (a b : Bool) → (a && b) ≡ true → (a ≡ true) × (b ≡ true)
both-true true true e = (refl, refl)
both-true true false e = absurd cc
both-true false b e = absurd cc

and_false : (b : Bool) → (b && false) ≡ false
and_false true = refl
and_false false = refl

module _ {X Y : Type 0} (E : Y → Y → Bool) (f : X → Y) where
  alike-next : (xs ys : List X) (place : ℕ) (x y : X) → place < length xs → place < length ys → x ≡ get_or xs place x → y ≡ get_or ys place y → pointwise E (map f (take place xs)) (map f (take place ys)) ≡ true → true ≡ E (f x) (f y)
      → pointwise E (map f (take (suc place) xs)) (map f (take (suc place) ys)) ≡ true
  alike-next [] ys place x y in_xs in_ys is_x is_y had here = absurd (omega (arith, in_xs))
  alike-next (a ∷ left) [] place x y in_xs in_ys is_x is_y had here = absurd (omega (arith, in_ys))
  alike-next (a ∷ left) (b ∷ right) zero x y in_xs in_ys is_x is_y had here =
      let at : E (f x) (f y) ≡ E (f a) (f b) = λ i. E (f (is_x i)) (f (is_y i)) in
      let yes : E (f a) (f b) ≡ true = sym at ∙ sym here in
      rw yes refl
  alike-next (a ∷ left) (b ∷ right) (suc place) x y in_xs in_ys is_x is_y had here =
      let halves = both-true (E (f a) (f b)) (pointwise E (map f (take place left)) (map f (take place right))) had in
      let rest = alike-next left right place x y (omega (arith, in_xs)) (omega (arith, in_ys)) is_x is_y halves.1 here in
      rw halves.0 rest

  pub alike-more : (xs ys : List X) (place : ℕ) (x y : X) → place < length xs → place < length ys → x ≡ get_or xs place x → y ≡ get_or ys place y → pointwise E (map f (take place xs)) (map f (take place ys)) ≡ true → true ≡ E (f x) (f y)
      → pointwise E (map f (take (place + 1) xs)) (map f (take (place + 1) ys)) ≡ true
  alike-more xs ys place x y in_xs in_ys is_x is_y had here =
      let one : suc place ≡ place + 1 = omega arith in
      subst (λ n. pointwise E (map f (take n xs)) (map f (take n ys)) ≡ true) one (alike-next xs ys place x y in_xs in_ys is_x is_y had here)

  pub unlike-at : (xs ys : List X) (place : ℕ) (x y : X) → place < length xs → place < length ys → x ≡ get_or xs place x → y ≡ get_or ys place y → false ≡ E (f x) (f y) → false ≡ pointwise E (map f xs) (map f ys)
  unlike-at [] ys place x y in_xs in_ys is_x is_y off = absurd (omega (arith, in_xs))
  unlike-at (a ∷ left) [] place x y in_xs in_ys is_x is_y off = absurd (omega (arith, in_ys))
  unlike-at (a ∷ left) (b ∷ right) zero x y in_xs in_ys is_x is_y off =
      let at : E (f x) (f y) ≡ E (f a) (f b) = λ i. E (f (is_x i)) (f (is_y i)) in
      let no : E (f a) (f b) ≡ false = sym at ∙ sym off in
      rw no refl
  unlike-at (a ∷ left) (b ∷ right) (suc place) x y in_xs in_ys is_x is_y off =
      let rest = unlike-at left right place x y (omega (arith, in_xs)) (omega (arith, in_ys)) is_x is_y off in
      sym (ap (λ t. E (f a) (f b) && t) (sym rest) ∙ and_false (E (f a) (f b)))

  pub alike-all : (xs ys : List X) (place : ℕ) → length xs ≤ place → length ys ≤ place → pointwise E (map f (take place xs)) (map f (take place ys)) ≡ true → true ≡ pointwise E (map f xs) (map f ys)
  alike-all xs ys place all_xs all_ys had = sym (subst (λ l. pointwise E (map f l) (map f ys) ≡ true) (take_all place xs all_xs) (subst (λ l. pointwise E (map f (take place xs)) (map f l) ≡ true) (take_all place ys all_ys) had))

name-itself : (x y : List ℕ) → x ≡ y → is_name x y ≡ true
name-itself x y e = subst (λ t. is_name x t ≡ true) e (ap is_eq (tied_itself nat_list_cmp_total x))

pair-decides : (one other : List ℕ × List ℕ) → (is_same_pair one other ≡ true → one ≡ other) × (one ≡ other → is_same_pair one other ≡ true)
pair-decides one other = (
  λ yes.
      let halves = both-true (is_name one.0 other.0) (is_name one.1 other.1) yes in
      let names = same-name one.0 other.0 halves.0 in
      let texts = same-name one.1 other.1 halves.1 in
      λ i. (names i, texts i),
  λ e. rw (name-itself one.0 other.0 (ap (λ (p : List ℕ × List ℕ). p.0) e)) (name-itself one.1 other.1 (ap (λ (p : List ℕ × List ℕ). p.1) e)),
)

-- the test decides whether the lists of names with texts are equal
pub equal-is : (one other : List (List ℕ × AttrValue)) → (is_equal one other ≡ true → texts_of one ≡ texts_of other) × (texts_of one ≡ texts_of other → is_equal one other ≡ true)
equal-is one other = pointwise_decides pair-decides (texts_of one) (texts_of other)

pub equal-by : (one other : List (List ℕ × AttrValue)) → true ≡ is_equal one other → IsTrue true ↔ (texts_of one ≡ texts_of other)
equal-by one other is = (λ t. (equal-is one other).0 (sym is), λ e. refl)

pub unequal-by : (one other : List (List ℕ × AttrValue)) → false ≡ is_equal one other → IsTrue false ↔ (texts_of one ≡ texts_of other)
unequal-by one other off = (λ f. absurd cc, λ e. off ∙ (equal-is one other).1 e)
