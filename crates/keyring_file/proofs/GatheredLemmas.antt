-- The attributes put in order are those that the pairs gather.
use Rattle.std.proofs.Common.{◌≡◌, ℕ, Bool, true, false, cond, List, [], ◌∷◌, Option, Some, None, Result, Ok, Err, refl, sym, ap, subst, ◌∙◌}
use Rattle.std.specs.declared.cmp.Ordering.{Ordering}
use Rattle.std.specs.declared.cmp.Ordering.TheVariants.{Less, Equal, Greater}
use Rattle.std.specs.Cmp.Lexicographic.{slice_cmp, nat_list_cmp_total}
use Rattle.std.specs.List.{AllByRecursion}
use Rattle.std.specs.List.Sorted.{IsStrictlySortedBy}
use Rattle.std.specs.Map.{keys_of}
use Rattle.std.specs.Option.{option_or}
use Rattle.std.specs.Result.{IfOk}
use Rattle.std.specs.Ordering.{nat_cmp, is_eq, match_ordering, ordering_reverse}
use Rattle.std.proofs.lemmas.Cmp.{tied_itself}
use Rattle.std.proofs.lemmas.Map.{lookup-none}
use Rattle.std.proofs.lemmas.Map.Entries.{none_below_head}
use Rattle.std.proofs.lemmas.Map.Lookups.{exact_bytes}
use Rattle.kr_base.specs.Attributes.{is_name, IsInOrder, value_at, last_value, Gathers}
use Rattle.keyring_file.specs.Gathered.{with_pair, gathered}

-- the order of names
abbrev by_bytes : List ℕ → List ℕ → Ordering
by_bytes = slice_cmp nat_cmp

is_equal : (o : Ordering) → is_eq o ≡ true → o ≡ Equal
is_equal Less e = absurd cc
is_equal Equal e = refl
is_equal Greater e = absurd cc

-- equal names are one name
same_name : (x y : List ℕ) → is_name x y ≡ true → x ≡ y
same_name x y e = exact_bytes x y (is_equal (by_bytes x y) e)

itself : (x : List ℕ) → is_name x x ≡ true
itself x = ap is_eq (tied_itself nat_list_cmp_total x)

all-below : (a b : List ℕ) (ks : List (List ℕ)) → by_bytes a b ≡ Less → AllByRecursion (λ y. by_bytes b y ≡ Less) ks → AllByRecursion (λ y. by_bytes a y ≡ Less) ks
all-below a b [] lt h = tt
all-below a b (k ∷ ks) lt h = (nat_list_cmp_total.trans a b k lt h.0, all-below a b ks lt h.1)

turned : (o : Ordering) → is_eq (ordering_reverse o) ≡ is_eq o
turned Less = refl
turned Equal = refl
turned Greater = refl

name-test : (x y : List ℕ) → is_name x y ≡ is_name y x
name-test x y = ap is_eq (nat_list_cmp_total.antisymm x y) ∙ turned (by_bytes y x)

module _ {V : Type 0} where
  -- ---- the order

  all-at : (P : List ℕ → Type 0) (pair x : List ℕ × V) (xs more : List (List ℕ × V)) (o : Ordering) → P pair.0 → AllByRecursion P (keys_of (x ∷ xs)) → AllByRecursion P (keys_of more) → AllByRecursion P (keys_of (match_ordering o (pair ∷ x ∷ xs) (x ∷ xs) (x ∷ more)))
  all-at P pair x xs more Less p h m = (p, h)
  all-at P pair x xs more Equal p h m = h
  all-at P pair x xs more Greater p h m = (h.0, m)

  all-with_pair : (P : List ℕ → Type 0) (pair : List ℕ × V) (xs : List (List ℕ × V)) → P pair.0 → AllByRecursion P (keys_of xs) → AllByRecursion P (keys_of (with_pair pair xs))
  all-with_pair P pair [] p h = (p, tt)
  all-with_pair P pair (x ∷ xs) p h = all-at P pair x xs (with_pair pair xs) (by_bytes pair.0 x.0) p h (all-with_pair P pair xs p h.1)

  in_order-at : (pair x : List ℕ × V) (xs more : List (List ℕ × V)) (o : Ordering) → by_bytes pair.0 x.0 ≡ o → IsInOrder (x ∷ xs) → IsInOrder more → (by_bytes x.0 pair.0 ≡ Less → AllByRecursion (λ y. by_bytes x.0 y ≡ Less) (keys_of more))
      → IsInOrder (match_ordering o (pair ∷ x ∷ xs) (x ∷ xs) (x ∷ more))
  unfolding IsStrictlySortedBy
  in_order-at pair x xs more Less p h m below = ((p, all-below pair.0 x.0 (keys_of xs) p h.0), h)
  in_order-at pair x xs more Equal p h m below = h
  in_order-at pair x xs more Greater p h m below = (below (nat_list_cmp_total.antisymm x.0 pair.0 ∙ ap ordering_reverse p), m)

  in_order-with_pair : (pair : List ℕ × V) (xs : List (List ℕ × V)) → IsInOrder xs → IsInOrder (with_pair pair xs)
  unfolding IsStrictlySortedBy
  in_order-with_pair pair [] h = (tt, tt)
  in_order-with_pair pair (x ∷ xs) h =
      in_order-at pair x xs (with_pair pair xs) (by_bytes pair.0 x.0) refl h (in_order-with_pair pair xs h.1) (λ lt. all-with_pair (λ y. by_bytes x.0 y ≡ Less) pair xs lt h.0)

  in_order-gathered : (pairs : List (List ℕ × V)) → IsInOrder (gathered pairs)
  unfolding gathered IsStrictlySortedBy
  in_order-gathered [] = tt
  in_order-gathered (pair ∷ more) = in_order-with_pair pair (gathered more) (in_order-gathered more)

  -- ---- the values

  or-none : (o : Option V) → option_or o None ≡ o
  or-none (Some v) = refl
  or-none None = refl

  or-some : (o : Option V) (v : V) (rest : Option V) → o ≡ Some v → option_or o rest ≡ o
  or-some (Some w) v rest e = refl
  or-some None v rest e = absurd cc

  -- the first name is less than all others, so if the name is the first one, none of the others has
  -- it
  less-case : (name : List ℕ) (pair x : List ℕ × V) (xs : List (List ℕ × V)) (t : Bool) → is_name name pair.0 ≡ t → IsInOrder (x ∷ xs) → by_bytes pair.0 x.0 ≡ Less
      → cond t (Some pair.1) (value_at name (x ∷ xs)) ≡ option_or (value_at name (x ∷ xs)) (cond t (Some pair.1) None)
  less-case name pair x xs true p h lt =
      let e = same_name name pair.0 p in
      let below : by_bytes name x.0 ≡ Less = subst (λ n. by_bytes n x.0 ≡ Less) (sym e) lt in
      let none : value_at name (x ∷ xs) ≡ None = lookup-none _ (x ∷ xs) (none_below_head nat_list_cmp_total name x xs h below) in
      rw none refl
  less-case name pair x xs false p h lt = sym (or-none _)

  equal-case : (name : List ℕ) (pair x : List ℕ × V) (xs : List (List ℕ × V)) (t : Bool) → is_name name pair.0 ≡ t → by_bytes pair.0 x.0 ≡ Equal → value_at name (x ∷ xs) ≡ option_or (value_at name (x ∷ xs)) (cond t (Some pair.1) None)
  equal-case name pair x xs true p eq =
      let e : name ≡ x.0 = same_name name pair.0 p ∙ exact_bytes pair.0 x.0 eq in
      let here : is_name name x.0 ≡ true = subst (λ n. is_name name n ≡ true) e (itself name) in
      let some : value_at name (x ∷ xs) ≡ Some x.1 = rw here refl in
      sym (or-some (value_at name (x ∷ xs)) x.1 (Some pair.1) some)
  equal-case name pair x xs false p eq = sym (or-none _)

  greater-case : (t : Bool) (v : V) (rest more : Option V) → cond t (Some v) (option_or rest more) ≡ option_or (cond t (Some v) rest) more
  greater-case true v rest more = refl
  greater-case false v rest more = refl

  value-at : (name : List ℕ) (pair x : List ℕ × V) (xs more : List (List ℕ × V)) (o : Ordering) → by_bytes pair.0 x.0 ≡ o → IsInOrder (x ∷ xs) → value_at name more ≡ option_or (value_at name xs) (cond (is_name name pair.0) (Some pair.1) None)
      → value_at name (match_ordering o (pair ∷ x ∷ xs) (x ∷ xs) (x ∷ more)) ≡ option_or (value_at name (x ∷ xs)) (cond (is_name name pair.0) (Some pair.1) None)
  value-at name pair x xs more Less p h m = less-case name pair x xs (is_name name pair.0) refl h p
  value-at name pair x xs more Equal p h m = equal-case name pair x xs (is_name name pair.0) refl p
  value-at name pair x xs more Greater p h m =
      ap (λ o. cond (is_name name x.0) (Some x.1) o) m ∙ greater-case (is_name name x.0) x.1 (value_at name xs) (cond (is_name name pair.0) (Some pair.1) None)

  value-with_pair : (name : List ℕ) (pair : List ℕ × V) (xs : List (List ℕ × V)) → IsInOrder xs → value_at name (with_pair pair xs) ≡ option_or (value_at name xs) (cond (is_name name pair.0) (Some pair.1) None)
  unfolding IsStrictlySortedBy
  value-with_pair name pair [] h = refl
  value-with_pair name pair (x ∷ xs) h = value-at name pair x xs (with_pair pair xs) (by_bytes pair.0 x.0) refl h (value-with_pair name pair xs h.1)

  values-gathered : (name : List ℕ) (pairs : List (List ℕ × V)) → value_at name (gathered pairs) ≡ last_value name pairs
  unfolding gathered
  values-gathered name [] = refl
  values-gathered name (pair ∷ more) =
      value-with_pair name pair (gathered more) (in_order-gathered more)
      ∙ ap (λ o. option_or o (cond (is_name name pair.0) (Some pair.1) None)) (values-gathered name more)
      ∙ ap (λ b. option_or (last_value name more) (cond b (Some pair.1) None)) (name-test name pair.0)

  pub gathers : (pairs : List (List ℕ × V)) → Gathers pairs (gathered pairs)
  gathers pairs = record { ordered = in_order-gathered pairs; values = λ name. values-gathered name pairs }

-- what a call gathered is the pairs put in order
pub in_order-is : {V E : Type 0} (r : Result (List (List ℕ × V)) E) (pairs : List (List ℕ × V)) → ((ps one other : List (List ℕ × V)) → Gathers ps one → Gathers ps other → one ≡ other) → IfOk r (λ m. Gathers pairs m) → IfOk r (λ m. m ≡ gathered pairs)
in_order-is (Ok m) pairs one g = one pairs m (gathered pairs) g (gathers pairs)
in_order-is (Err e) pairs one g = tt
