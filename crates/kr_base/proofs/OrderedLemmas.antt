-- Pairs whose names are in order are the attributes that they gather to.
use Rattle.std.proofs.Common.{◌≡◌, ℕ, ◌+◌, ◌<◌, Bool, true, false, cond, List, [], ◌∷◌, ◌++◌, length, take, get_or, Option, Some, None, refl, sym, ap, subst, ◌∙◌, arith}
use Rattle.std.specs.declared.cmp.Ordering.{Ordering}
use Rattle.std.specs.declared.cmp.Ordering.TheVariants.{Less, Equal, Greater}
use Rattle.std.specs.Cmp.Lexicographic.{slice_cmp, nat_list_cmp_total}
use Rattle.std.specs.List.{AllByRecursion}
use Rattle.std.specs.List.Sorted.{IsStrictlySortedBy}
use Rattle.std.specs.Map.{keys_of}
use Rattle.std.specs.Option.{option_or}
use Rattle.std.specs.Ordering.{nat_cmp, is_eq, is_lt, ordering_reverse}
use Rattle.std.proofs.lemmas.Cmp.{tied_itself}
use Rattle.std.proofs.lemmas.List.{take_more}
use Rattle.std.proofs.lemmas.Map.Lookups.{exact_bytes}
use Rattle.kr_base.specs.Attributes.{is_name, IsInOrder, value_at, last_value, Gathers}

-- the order of names
abbrev by_bytes : List ℕ → List ℕ → Ordering
by_bytes = slice_cmp nat_cmp

pub is_less : (o : Ordering) → is_lt o ≡ true → o ≡ Less
is_less Less e = refl
is_less Equal e = absurd cc
is_less Greater e = absurd cc

pub is_equal : (o : Ordering) → is_eq o ≡ true → o ≡ Equal
is_equal Less e = absurd cc
is_equal Equal e = refl
is_equal Greater e = absurd cc

turned : (o : Ordering) → is_eq (ordering_reverse o) ≡ is_eq o
turned Less = refl
turned Equal = refl
turned Greater = refl

pub name-test : (x y : List ℕ) → is_name x y ≡ is_name y x
name-test x y = ap is_eq (nat_list_cmp_total.antisymm x y) ∙ turned (by_bytes y x)

itself : (x : List ℕ) → is_name x x ≡ true
itself x = ap is_eq (tied_itself nat_list_cmp_total x)

module _ {V : Type 0} where
  -- ---- one pair after the other

  pub first-in_order : (xs : List (List ℕ × V)) → IsInOrder (take 1 xs)
  unfolding IsStrictlySortedBy
  first-in_order [] = tt
  first-in_order (x ∷ xs) = (tt, tt)

  all-pushed : (P : List ℕ → Type 0) (xs : List (List ℕ × V)) (a b : List ℕ × V) → (P a.0 → P b.0) → AllByRecursion P (keys_of (xs ++ a ∷ [])) → AllByRecursion P (keys_of ((xs ++ a ∷ []) ++ b ∷ []))
  all-pushed P [] a b step h = (h.0, (step h.0, tt))
  all-pushed P (x ∷ xs) a b step h = (h.0, all-pushed P xs a b step h.1)

  ordered-push : (xs : List (List ℕ × V)) (a b : List ℕ × V) → by_bytes a.0 b.0 ≡ Less → IsInOrder (xs ++ a ∷ []) → IsInOrder ((xs ++ a ∷ []) ++ b ∷ [])
  unfolding IsStrictlySortedBy
  ordered-push [] a b lt h = ((lt, tt), (tt, tt))
  ordered-push (x ∷ xs) a b lt h = (all-pushed (λ y. by_bytes x.0 y ≡ Less) xs a b (λ before. nat_list_cmp_total.trans x.0 a.0 b.0 before lt) h.0, ordered-push xs a b lt h.1)

  pub next-in_order : (xs : List (List ℕ × V)) (i : ℕ) (d e : List ℕ × V) → i + 1 < length xs → by_bytes (get_or xs i d).0 (get_or xs (i + 1) e).0 ≡ Less → IsInOrder (take (i + 1) xs) → IsInOrder (take (i + 1 + 1) xs)
  next-in_order xs i d e lt less h =
      let a = get_or xs i d in
      let b = get_or xs (i + 1) e in
      let one : take (i + 1) xs ≡ take i xs ++ a ∷ [] = take_more xs i d (omega (arith, lt)) in
      let two : take (i + 1 + 1) xs ≡ take (i + 1) xs ++ b ∷ [] = take_more xs (i + 1) e lt in
      let all : take (i + 1 + 1) xs ≡ (take i xs ++ a ∷ []) ++ b ∷ [] = two ∙ ap (λ ys. ys ++ b ∷ []) one in
      let before : IsInOrder (take i xs ++ a ∷ []) = subst (λ ys. IsInOrder ys) one h in
      subst (λ ys. IsInOrder ys) (sym all) (ordered-push (take i xs) a b less before)

  -- ---- what they gather

  none-below : (name : List ℕ) (xs : List (List ℕ × V)) → AllByRecursion (λ y. by_bytes name y ≡ Less) (keys_of xs) → value_at name xs ≡ None
  none-below name [] h = refl
  none-below name (x ∷ xs) h = ap (λ o. cond (is_eq o) (Some x.1) (value_at name xs)) h.0 ∙ none-below name xs h.1

  value-head : (name : List ℕ) (x : List ℕ × V) (xs : List (List ℕ × V)) (b : Bool) → is_name name x.0 ≡ b → value_at name xs ≡ last_value name xs → AllByRecursion (λ y. by_bytes x.0 y ≡ Less) (keys_of xs)
      → cond b (Some x.1) (value_at name xs) ≡ option_or (last_value name xs) (cond (is_name x.0 name) (Some x.1) None)
  value-head name x xs true e more below =
      let same : name ≡ x.0 = exact_bytes name x.0 (is_equal (by_bytes name x.0) e) in
      let none : value_at name xs ≡ None = none-below name xs (subst (λ n. AllByRecursion (λ y. by_bytes n y ≡ Less) (keys_of xs)) (sym same) below) in
      let test : is_name x.0 name ≡ true = subst (λ n. is_name n name ≡ true) same (itself name) in
      sym (ap (λ o. option_or o (cond (is_name x.0 name) (Some x.1) None)) (sym more ∙ none) ∙ ap (λ t. cond t (Some x.1) None) test)
  value-head name x xs false e more below =
      let test : is_name x.0 name ≡ false = name-test x.0 name ∙ e in
      more ∙ sym (ap (λ t. option_or (last_value name xs) (cond t (Some x.1) None)) test ∙ or-none (last_value name xs))
    where
      or-none : (o : Option V) → option_or o None ≡ o
      or-none None = refl
      or-none (Some v) = refl

  value-last : (xs : List (List ℕ × V)) → IsInOrder xs → (name : List ℕ) → value_at name xs ≡ last_value name xs
  unfolding IsStrictlySortedBy
  value-last [] s name = refl
  value-last (x ∷ xs) s name = value-head name x xs (is_name name x.0) refl (value-last xs s.1 name) s.0

  pub Gathers-itself : (xs : List (List ℕ × V)) → IsInOrder xs → Gathers xs xs
  Gathers-itself xs s = record { ordered = s; values = value-last xs s }
