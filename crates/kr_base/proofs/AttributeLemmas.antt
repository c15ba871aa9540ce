-- Attributes: what is gathered from pairs, and what a search finds in order.
use Rattle.std.proofs.Common.{◌≡◌, ℕ, ◌<◌, ◌≤◌, Bool, true, false, cond, nat_eq, List, [], ◌∷◌, length, get_or, Option, Some, None, refl, sym, ◌∙◌, ap, subst, inl, inr, ⊎_elim, arith}
use Rattle.std.specs.declared.cmp.Ordering.{Ordering}
use Rattle.std.specs.declared.cmp.Ordering.TheVariants.{Less, Equal, Greater}
use Rattle.std.specs.BTreeMap.{BTreeMap}
use Rattle.std.specs.BTreeMap as tree
use Rattle.std.specs.Bool.{Decides}
use Rattle.std.specs.Cmp.{IsTotalOrder, unsigned_Decides}
use Rattle.std.specs.Cmp.Lexicographic.{slice_cmp, nat_list_cmp_total, pointwise, pointwise_decides}
use Rattle.std.specs.List.Sorted.{IsStrictlySortedBy, IsNonDecreasingBy, IsPartitionPoint}
use Rattle.std.specs.Map.{keys_of, update_all}
use Rattle.std.specs.Option.{option_or}
use Rattle.std.specs.Ordering.{nat_cmp, is_eq, eq_by_cmp, ordering_index, ordering_reverse, on, eq_of_both}
use Rattle.std.proofs.lemmas.Cmp.{eq_by_cmp_equiv, alike_right, tied_itself}
use Rattle.std.proofs.Math.ListN.{get_or-map}
use Rattle.std.proofs.lemmas.Bool.{cases_lt, cases_Bool}
use Rattle.std.proofs.lemmas.Bool.Decides.{Decides-and}
use Rattle.std.proofs.lemmas.Map.{lookup-none}
use Rattle.std.proofs.lemmas.Map.Entries.{lookup_from_place, lookup_at_gap, length-keys_of, lookup_head, lookup_tail, none_past_head, none_below_head}
use Rattle.std.proofs.lemmas.Map.Keys.{IsDistinct-from_sorted, Less-from_sorted, sorted_tail}
use Rattle.std.proofs.lemmas.Map.Lookups.{exact_bytes}
use Rattle.std.proofs.lemmas.Option.{slice_get-get_or, slice_get_within, get_or_from_slice_get}
use Rattle.kr_base.specs.Attributes.{is_name, IsInOrder, value_at, last_value, Gathers}

-- the order of names
abbrev by_bytes : List ℕ → List ℕ → Ordering
by_bytes = slice_cmp nat_cmp

pub IsInOrder-nil : (V : Type 0) → IsInOrder {V = V} []
unfolding IsStrictlySortedBy
IsInOrder-nil V = tt

-- inserting pairs in turn leaves at each name the value of the last pair that has it
pub either : {V : Type 0} (last : Option V) (b : Bool) (v : V) (before : Option V) → option_or last (cond b (Some v) before) ≡ option_or (option_or last (cond b (Some v) None)) before
either (Some w) b v before = refl
either None true v before = refl
either None false v before = refl

last_inserted : {V : Type 0} (before : List ℕ → Option V) (pairs : List (List ℕ × V)) (name : List ℕ) → update_all (eq_by_cmp by_bytes) before pairs name ≡ option_or (last_value name pairs) (before name)
last_inserted before [] name = refl
last_inserted before (p ∷ more) name =
    last_inserted (λ q. cond (is_name p.0 q) (Some p.1) (before q)) more name ∙ either (last_value name more) (is_name p.0 name) p.1 (before name)

pub option_or-none : {V : Type 0} (o : Option V) → option_or o None ≡ o
option_or-none None = refl
option_or-none (Some v) = refl

pub Gathers-from_map : {V : Type 0} (pairs : List (List ℕ × V)) (m : BTreeMap (List ℕ) V) → tree.IsFromIterResult by_bytes pairs m → Gathers pairs m.entries
Gathers-from_map pairs m h = record {
  ordered = h.1;
  values = λ name. h.0 name ∙ last_inserted (λ _. None) pairs name ∙ option_or-none (last_value name pairs);
}

-- lists in order that have the same value at each name are one list
module _ {V : Type 0} where
  at_head : (x : List ℕ × V) (xs : List (List ℕ × V)) → value_at x.0 (x ∷ xs) ≡ Some x.1
  at_head x xs = lookup_head (is_name x.0) x xs (ap is_eq (tied_itself nat_list_cmp_total x.0))

  module _ (x y : List ℕ × V) (xs ys : List (List ℕ × V)) (s : IsInOrder (x ∷ xs)) (t : IsInOrder (y ∷ ys)) (h : (name : List ℕ) → value_at name (x ∷ xs) ≡ value_at name (y ∷ ys)) where
    same_heads : (r : Ordering) → by_bytes x.0 y.0 ≡ r → x.0 ≡ y.0
    same_heads Less p =
        let none : value_at x.0 (y ∷ ys) ≡ None = lookup-none _ (y ∷ ys) (none_below_head nat_list_cmp_total x.0 y ys t p) in
        let some : value_at x.0 (y ∷ ys) ≡ Some x.1 = sym (h x.0) ∙ at_head x xs in
        absurd cc
    same_heads Equal p = exact_bytes x.0 y.0 p
    same_heads Greater p =
        let none : value_at y.0 (x ∷ xs) ≡ None = lookup-none _ (x ∷ xs) (none_below_head nat_list_cmp_total y.0 x xs s (nat_list_cmp_total.antisymm y.0 x.0 ∙ ap ordering_reverse p)) in
        let some : value_at y.0 (x ∷ xs) ≡ Some y.1 = h y.0 ∙ at_head y ys in
        absurd cc

    heads : x.0 ≡ y.0
    heads = same_heads (by_bytes x.0 y.0) refl

    values : x.1 ≡ y.1
    values =
        let at : is_name x.0 y.0 ≡ true = subst (λ n. is_name x.0 n ≡ true) heads (ap is_eq (tied_itself nat_list_cmp_total x.0)) in
        let e : Some x.1 ≡ Some y.1 = sym (at_head x xs) ∙ h x.0 ∙ lookup_head (is_name x.0) y ys at in
        cc

    past_head : (z : List ℕ × V) (zs : List (List ℕ × V)) (name : List ℕ) → IsInOrder (z ∷ zs) → is_name name z.0 ≡ true → value_at name zs ≡ None
    past_head z zs name u at = lookup-none (is_name name) zs (none_past_head (eq_by_cmp_equiv nat_list_cmp_total) name z zs (IsDistinct-from_sorted by_bytes (keys_of (z ∷ zs)) u) at)

    tails : (name : List ℕ) → value_at name xs ≡ value_at name ys
    tails name =
        let same : is_name name x.0 ≡ is_name name y.0 = ap (is_name name) heads in
        ⊎_elim
        (λ at. past_head x xs name s at ∙ sym (past_head y ys name t (sym same ∙ at)))
        (λ off. sym (lookup_tail (is_name name) x xs off) ∙ h name ∙ lookup_tail (is_name name) y ys (sym same ∙ off))
        (cases_Bool (is_name name x.0))

  pub same_values : (xs ys : List (List ℕ × V)) → IsInOrder xs → IsInOrder ys → ((name : List ℕ) → value_at name xs ≡ value_at name ys) → xs ≡ ys
  same_values [] [] s t h = refl
  same_values [] (y ∷ ys) s t h = let some : None ≡ Some y.1 = h y.0 ∙ at_head y ys in absurd cc
  same_values (x ∷ xs) [] s t h = let some : None ≡ Some x.1 = sym (h x.0) ∙ at_head x xs in absurd cc
  same_values (x ∷ xs) (y ∷ ys) s t h =
      let rest = same_values xs ys (sorted_tail by_bytes x.0 (keys_of xs) s) (sorted_tail by_bytes y.0 (keys_of ys) t) (tails x y xs ys s t h) in
      λ i. (heads x y xs ys s t h i, values x y xs ys s t h i) ∷ rest i

-- pairs gather to one list only
pub one_gathered : {V : Type 0} (pairs some other : List (List ℕ × V)) → Gathers pairs some → Gathers pairs other → some ≡ other
one_gathered pairs some other p q = same_values some other p.ordered q.ordered (λ name. p.values name ∙ sym (q.values name))

-- along names in order the comparison with a name rises
rises : {K : Type 0} {R : K → K → Ordering} (o : IsTotalOrder R) (x y q : K) → R x y ≡ Less → (a b : Ordering) → R x q ≡ a → R y q ≡ b → ordering_index a ≤ ordering_index b
rises o x y q less Less b p s = omega arith
rises o x y q less Equal Less p s = let k = o.trans x y q less s in absurd cc
rises o x y q less Equal Equal p s = omega arith
rises o x y q less Equal Greater p s = omega arith
rises o x y q less Greater Less p s = let k = o.trans x y q less s in absurd cc
rises o x y q less Greater Equal p s = let k = alike_right o y q x s in absurd cc
rises o x y q less Greater Greater p s = omega arith

module _ {V : Type 0} (attributes : List (List ℕ × V)) (ordered : IsInOrder attributes) (name : List ℕ) where
  names_rise : (i j : ℕ) (d : List ℕ × V) → i < j → j < length attributes → by_bytes (get_or attributes i d).0 (get_or attributes j d).0 ≡ Less
  names_rise i j d lt in_range =
      let rising = Less-from_sorted by_bytes (keys_of attributes) i j d.0 ordered lt (omega (arith, length-keys_of attributes)) in
      let one : get_or (keys_of attributes) i d.0 ≡ (get_or attributes i d).0 = get_or-map (λ (p : List ℕ × V). p.0) attributes i d in
      let other : get_or (keys_of attributes) j d.0 ≡ (get_or attributes j d).0 = get_or-map (λ (p : List ℕ × V). p.0) attributes j d in
      rw (one, other) at rising

  comparisons_rise : IsNonDecreasingBy (λ p. ordering_index (by_bytes p.0 name)) attributes
  comparisons_rise i j d le in_range =
      elim (cases_lt i j) [
        | inl lt ↦ rises nat_list_cmp_total _ _ name (names_rise i j d lt in_range) _ _ refl refl
        | inr least ↦
            let same : i ≡ j = omega arith in
            omega (arith, ap (λ k. ordering_index (by_bytes (get_or attributes k d).0 name)) same)
      ]

  -- a search that hits finds the value
  pub found_at : (i : ℕ) (d : List ℕ × V) → i < length attributes → by_bytes (get_or attributes i d).0 name ≡ Equal → value_at name attributes ≡ Some (get_or attributes i d).1
  found_at i d in_range equal =
      let same : (get_or attributes i d).0 ≡ name = exact_bytes _ _ equal in
      let found = lookup_from_place (eq_by_cmp_equiv nat_list_cmp_total) attributes i (get_or attributes i d).0 (get_or attributes i d).1 (IsDistinct-from_sorted by_bytes (keys_of attributes) ordered) (slice_get-get_or attributes i d in_range) in
      rw same at found

  -- a search that misses shows that there is none
  pub found_none : (i : ℕ) → (IsNonDecreasingBy (λ p. ordering_index (by_bytes p.0 name)) attributes → IsPartitionPoint (λ p. by_bytes p.0 name ≡ Less) (λ p. by_bytes p.0 name ≡ Greater) attributes i) → value_at name attributes ≡ None
  found_none i parted =
      lookup_at_gap nat_list_cmp_total name attributes i ordered
      (λ j e lt at.
      let less = (parted comparisons_rise).0 j e (omega arith) lt in
      let here : get_or attributes j e ≡ e = get_or_from_slice_get attributes j e e at in
      nat_list_cmp_total.antisymm name e.0 ∙ ap ordering_reverse (rw here at less))
      (λ e at.
      let greater = (parted comparisons_rise).1 i e (omega arith) (slice_get_within attributes i e at) in
      let here : get_or attributes i e ≡ e = get_or_from_slice_get attributes i e e at in
      nat_list_cmp_total.antisymm name e.0 ∙ ap ordering_reverse (rw here at greater))

-- if values compare as equal exactly when they are the same, so do attributes
pairs_Decide : {V : Type 0} (same : V → V → Bool) → ((v w : V) → Decides (same v w) (v ≡ w)) → (p q : List ℕ × V)
    → Decides (eq_of_both (on (λ (x : List ℕ × V). x.0) (pointwise nat_eq)) (on (λ (x : List ℕ × V). x.1) same) p q) (p ≡ q)
pairs_Decide same values p q =
    let both = Decides-and (pointwise nat_eq p.0 q.0) (same p.1 q.1) (pointwise_decides unsigned_Decides p.0 q.0) (values p.1 q.1) in
    (λ e. (let parts = both.0 e in λ i. (parts.0 i, parts.1 i)), λ e. both.1 (ap (λ x. x.0) e, ap (λ x. x.1) e))

pub attributes_Decide : {V : Type 0} (same : V → V → Bool) → ((v w : V) → Decides (same v w) (v ≡ w)) → (xs ys : List (List ℕ × V))
    → Decides (pointwise (eq_of_both (on (λ (x : List ℕ × V). x.0) (pointwise nat_eq)) (on (λ (x : List ℕ × V). x.1) same)) xs ys) (xs ≡ ys)
attributes_Decide same values xs ys = pointwise_decides (pairs_Decide same values) xs ys
