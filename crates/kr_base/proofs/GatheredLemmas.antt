-- The function that gathers pairs returns what the relation says.
use Rattle.std.proofs.Common.{◌≡◌, ℕ, Bool, true, false, cond, List, [], ◌∷◌, Option, Some, refl, sym, ap, ◌∙◌}
use Rattle.std.specs.declared.cmp.Ordering.{Ordering}
use Rattle.std.specs.declared.cmp.Ordering.TheVariants.{Less, Equal, Greater}
use Rattle.std.specs.BTreeMap.{insert_entry}
use Rattle.std.specs.Cmp.Lexicographic.{slice_cmp, nat_list_cmp_total}
use Rattle.std.specs.List.{fold, AllByRecursion}
use Rattle.std.specs.List.Sorted.{IsStrictlySortedBy}
use Rattle.std.specs.Map.{keys_of}
use Rattle.std.specs.Option.{option_or}
use Rattle.std.specs.Ordering.{nat_cmp, ordering_reverse, match_ordering}
use Rattle.std.proofs.lemmas.Cmp.{tied_itself}
use Rattle.std.proofs.lemmas.List.Elements.{All-from_recursion, recursion_from_All}
use Rattle.std.proofs.lemmas.Map.Lookups.{exact_bytes}
use Rattle.std.proofs.lemmas.Map.Views.{All-keys-insert_entry}
use Rattle.kr_base.specs.Attributes.{is_name, IsInOrder, value_at, last_value, Gathers, with_pair, gathered}
use Rattle.kr_base.proofs.AttributeLemmas.{IsInOrder-nil, either, option_or-none, one_gathered}
use Rattle.kr_base.proofs.OrderedLemmas.{is_equal, name-test}

abbrev by_bytes : List ℕ → List ℕ → Ordering
by_bytes = slice_cmp nat_cmp

-- ---- a pair is put into its position, and all stay in order

below : (x y z : List ℕ) → by_bytes x y ≡ Less → by_bytes y z ≡ Less → by_bytes x z ≡ Less
below x y z p q = nat_list_cmp_total.trans x y z p q

all_below : (x y : List ℕ) (names : List (List ℕ)) → by_bytes x y ≡ Less → AllByRecursion (λ z. by_bytes y z ≡ Less) names → AllByRecursion (λ z. by_bytes x z ≡ Less) names
all_below x y [] less all = tt
all_below x y (z ∷ names) less all = (below x y z less all.0, all_below x y names less all.1)

in_order : {V : Type 0} (made : List (List ℕ × V)) (name : List ℕ) (value : V) → IsInOrder made → IsInOrder (insert_entry by_bytes made name value)
unfolding IsStrictlySortedBy
in_order [] name value is = (tt, tt)
in_order {V} (e ∷ made) name value is = placed (by_bytes name e.0) refl (in_order made name value is.1)
  where
    placed : (r : Ordering) → by_bytes name e.0 ≡ r → IsInOrder (insert_entry by_bytes made name value) → IsInOrder (match_ordering r ((name, value) ∷ e ∷ made) ((e.0, value) ∷ made) (e ∷ insert_entry by_bytes made name value))
    placed Less p more = ((p, all_below name e.0 (keys_of made) p is.0), is)
    placed Equal p more = is
    placed Greater p more = (
      recursion_from_All (λ z. by_bytes e.0 z ≡ Less) (keys_of (insert_entry by_bytes made name value))
          (All-keys-insert_entry by_bytes name value (λ z. by_bytes e.0 z ≡ Less) made (All-from_recursion (λ z. by_bytes e.0 z ≡ Less) (keys_of made) is.0) (nat_list_cmp_total.antisymm e.0 name ∙ ap ordering_reverse p)),
      more,
    )

-- ---- and its name has its value

twice : {V : Type 0} (b : Bool) (one other : V) (rest : Option V) → cond b (Some one) rest ≡ cond b (Some one) (cond b (Some other) rest)
twice true one other rest = refl
twice false one other rest = refl

apart : {V : Type 0} (a b : Bool) (one other : V) (rest : Option V) → (a ≡ true → b ≡ true → ⊥) → cond a (Some one) (cond b (Some other) rest) ≡ cond b (Some other) (cond a (Some one) rest)
apart true true one other rest never = absurd (never refl refl)
apart true false one other rest never = refl
apart false b one other rest never = refl

is_same : (x y : List ℕ) → is_name x y ≡ true → x ≡ y
is_same x y e = exact_bytes x y (is_equal (by_bytes x y) e)

found : {V : Type 0} (made : List (List ℕ × V)) (name : List ℕ) (value : V) (wanted : List ℕ)
    → value_at wanted (insert_entry by_bytes made name value) ≡ cond (is_name wanted name) (Some value) (value_at wanted made)
found [] name value wanted = refl
found {V} (e ∷ made) name value wanted = placed (by_bytes name e.0) refl (found made name value wanted)
  where
    placed : (r : Ordering) → by_bytes name e.0 ≡ r → value_at wanted (insert_entry by_bytes made name value) ≡ cond (is_name wanted name) (Some value) (value_at wanted made)
        → value_at wanted (match_ordering r ((name, value) ∷ e ∷ made) ((e.0, value) ∷ made) (e ∷ insert_entry by_bytes made name value))
        ≡ cond (is_name wanted name) (Some value) (value_at wanted (e ∷ made))
    placed Less p more = refl
    placed Equal p more =
        ap (λ n. cond (is_name wanted n) (Some value) (value_at wanted made)) (sym (exact_bytes name e.0 p))
        ∙ twice (is_name wanted name) value e.1 (value_at wanted made)
        ∙ ap (λ n. cond (is_name wanted name) (Some value) (cond (is_name wanted n) (Some e.1) (value_at wanted made))) (exact_bytes name e.0 p)
    placed Greater p more =
        ap (λ rest. cond (is_name wanted e.0) (Some e.1) rest) more
        ∙ apart (is_name wanted e.0) (is_name wanted name) e.1 value (value_at wanted made)
        (λ here there.
        let same : name ≡ e.0 = sym (is_same wanted name there) ∙ is_same wanted e.0 here in
        let tied : by_bytes name e.0 ≡ Equal = ap (by_bytes name) (sym same) ∙ tied_itself nat_list_cmp_total name in
        absurd cc)

-- ---- so do all pairs

all_in_order : {V : Type 0} (made pairs : List (List ℕ × V)) → IsInOrder made → IsInOrder (fold with_pair made pairs)
all_in_order made [] is = is
all_in_order made (pair ∷ pairs) is = all_in_order (with_pair made pair) pairs (in_order made pair.0 pair.1 is)

all_found : {V : Type 0} (made pairs : List (List ℕ × V)) (name : List ℕ) → value_at name (fold with_pair made pairs) ≡ option_or (last_value name pairs) (value_at name made)
all_found made [] name = refl
all_found made (pair ∷ pairs) name =
    all_found (with_pair made pair) pairs name
    ∙ ap (option_or (last_value name pairs)) (found made pair.0 pair.1 name ∙ ap (λ b. cond b (Some pair.1) (value_at name made)) (name-test name pair.0))
    ∙ either (last_value name pairs) (is_name pair.0 name) pair.1 (value_at name made)

pub gathers : {V : Type 0} (pairs : List (List ℕ × V)) → Gathers pairs (gathered pairs)
unfolding gathered
gathers {V} pairs = record {
  ordered = all_in_order [] pairs (IsInOrder-nil V);
  values = λ name. all_found [] pairs name ∙ option_or-none (last_value name pairs);
}

pub is_gathered : {V : Type 0} (pairs attributes : List (List ℕ × V)) → Gathers pairs attributes → attributes ≡ gathered pairs
is_gathered pairs attributes is = one_gathered pairs attributes (gathered pairs) is (gathers pairs)
