-- What the pairs have after an id was put or taken out at one of them: the ids at each pair, their order, and that none is kept
-- without ids.
use Rattle.std.proofs.Common.{◌≡◌, ℕ, Bool, true, false, cond, List, [], ◌∷◌, ◌++◌, Option, Some, None, IsSome, Result, Ok, Err, filter, nat_lt, refl, sym, ap, subst, ◌∙◌, ⊎_elim}
use Rattle.std.specs.Prelude.{OnOk, OnErr}
use Rattle.std.specs.Cmp.{IsEquivalence}
use Rattle.std.specs.Cmp.Lexicographic.{slice_cmp}
use Rattle.std.specs.List.Sorted.{IsStrictlySortedBy}
use Rattle.std.specs.Map.{keys_of, lookup, remove_entry, set_value}
use Rattle.std.specs.Ordering.{is_eq, is_lt, nat_cmp, ordering_reverse, ordering_then}
use Rattle.std.specs.declared.cmp.Ordering.{Ordering}
use Rattle.std.specs.declared.cmp.Ordering.TheVariants.{Less, Equal, Greater}
use Rattle.std.proofs.lemmas.Bool.{cases_Bool}
use Rattle.std.proofs.lemmas.Cmp.{eq_by_cmp_equiv, tied_itself}
use Rattle.std.proofs.lemmas.Map.{NonePasses, keys-set_value, lookup-remove_entry, lookup-set_value, none_passes_from_lookup}
use Rattle.std.proofs.lemmas.Map.Keys.{IsDistinct-from_sorted}
use Rattle.std.proofs.lemmas.Map.Lookups.{exact_bytes, exact_pairs}
use Rattle.std.specs.Cmp.{tied_then}
use Rattle.kr_base.specs.IdLists.{with_id, without_id}
use Rattle.attribute_index.specs.Around.{Around, with_own}
use Rattle.attribute_index.specs.Index.{IsLean, IsPut, IsPutThere, IsSame, IsSorted, IsTaken, IsTakenThere, Names, ids_in_names, is_none_left, is_pair, is_this, or_none, pair_cmp, pair_key, text_cmp}
use Rattle.attribute_index.proofs.EntryLemmas.{Equal-is}
use Rattle.attribute_index.proofs.BranchLemmas.{AllAbove, less-above, pair_total, set-none, sorted-cons, sorted-head, sorted-tail}

-- ---- pairs that are the same

pair_equiv : IsEquivalence is_pair
pair_equiv = eq_by_cmp_equiv pair_total

then-Equal : (one other : Ordering) → ordering_then one other ≡ Equal → other ≡ Equal
then-Equal Less other e = absurd cc
then-Equal Equal other e = e
then-Equal Greater other e = absurd cc

same_texts : (k q : List ℕ × List ℕ) → text_cmp k q ≡ Equal → k ≡ q
same_texts k q e = exact_pairs (slice_cmp nat_cmp) (slice_cmp nat_cmp) exact_bytes exact_bytes k q e

same_pair : (k q : List ℕ × List ℕ) → is_pair k q ≡ true → k ≡ q
same_pair k q e = same_texts k q (then-Equal (nat_cmp (pair_key k) (pair_key q)) (text_cmp k q) (Equal-is (pair_cmp k q) e))

one_pair : (k x y : List ℕ × List ℕ) → is_pair k x ≡ true → is_pair k y ≡ is_pair x y
one_pair k x y is = ap (λ q. is_pair q y) (same_pair k x is)

then-apart : (one other : Ordering) → is_eq other ≡ false → is_eq (ordering_then one other) ≡ false
then-apart Less other off = refl
then-apart Equal other off = off
then-apart Greater other off = refl

-- pairs with the same texts have the same key
by_texts : (k q : List ℕ × List ℕ) → is_pair k q ≡ is_eq (text_cmp k q)
by_texts k q =
    ⊎_elim
    (λ is. subst (λ p. is_pair k p ≡ true) (same_texts k q (Equal-is (text_cmp k q) is)) (ap is_eq (tied_itself pair_total k)) ∙ sym is)
    (λ off. then-apart (nat_cmp (pair_key k) (pair_key q)) (text_cmp k q) off ∙ sym off)
    (cases_Bool (is_eq (text_cmp k q)))

this_pair : (name text n t : List ℕ) → is_this name text n t ≡ is_pair (name, text) (n, t)
this_pair name text n t = tied_then (slice_cmp nat_cmp name n) (slice_cmp nat_cmp text t) ∙ sym (by_texts (name, text) (n, t))

module _ (k : List ℕ × List ℕ) where
  -- ---- what a look-up finds after a change

  set-at : (es : Names) (v w : List ℕ) → lookup (is_pair k) es ≡ Some v → (q : List ℕ × List ℕ) → lookup (is_pair q) (set_value (is_pair k) es w) ≡ cond (is_pair k q) (Some w) (lookup (is_pair q) es)
  set-at es v w there q =
      let some : IsSome (lookup (is_pair k) es) = rw there refl in
      lookup-set_value pair_equiv (is_pair k) (one_pair k) q w es some

  gone-at : (es : Names) → IsSorted es → (q : List ℕ × List ℕ) → lookup (is_pair q) (remove_entry (is_pair k) es) ≡ cond (is_pair k q) None (lookup (is_pair q) es)
  gone-at es s q = lookup-remove_entry pair_equiv (is_pair k) (one_pair k) q es (IsDistinct-from_sorted pair_cmp (keys_of es) s)

  -- the ids at each pair, if one has other ids
  ids-at : (f : List ℕ → List ℕ) (es new : Names) (value : Option (List ℕ)) → ((q : List ℕ × List ℕ) → lookup (is_pair q) new ≡ cond (is_pair k q) value (lookup (is_pair q) es)) → or_none value ≡ f (or_none (lookup (is_pair k) es))
      → (q : List ℕ × List ℕ) → or_none (lookup (is_pair q) new) ≡ cond (is_pair k q) (f (or_none (lookup (is_pair q) es))) (or_none (lookup (is_pair q) es))
  ids-at f es new value updates here q =
      rw (updates q) (
      ⊎_elim
      (λ is.
      let at : or_none value ≡ f (or_none (lookup (is_pair q) es)) = here ∙ ap (λ p. f (or_none (lookup (is_pair p) es))) (same_pair k q is) in
      rw is at)
      (λ off. rw off refl)
      (cases_Bool (is_pair k q)))

  -- no pair is without ids, if one has some ids
  lean-at : (es new : Names) (value : Option (List ℕ)) → ((q : List ℕ × List ℕ) → lookup (is_pair q) new ≡ cond (is_pair k q) value (lookup (is_pair q) es)) → (value ≡ Some [] → ⊥) → IsLean es → IsLean new
  lean-at es new value updates here lean name text =
      subst (λ (o : Option (List ℕ)). o ≡ Some [] → ⊥) (sym (updates (name, text)))
      (⊎_elim
      (λ is. rw is here)
      (λ off. rw off (lean name text))
      (cases_Bool (is_pair k (name, text))))

set-sorted : (k : List ℕ × List ℕ) (es : Names) (w : List ℕ) → IsSorted es → IsSorted (set_value (is_pair k) es w)
set-sorted k es w s = subst (IsStrictlySortedBy pair_cmp) (sym (keys-set_value (is_pair k) es w)) s

above-removed : (x k : List ℕ × List ℕ) (es : Names) → AllAbove x es → AllAbove x (remove_entry (is_pair k) es)
above-removed x k [] h = tt
above-removed x k (e ∷ es) h =
    ⊎_elim
    (λ is. rw is h.1)
    (λ off. rw off (h.0, above-removed x k es h.1))
    (cases_Bool (is_pair k e.0))

removed-sorted : (k : List ℕ × List ℕ) (es : Names) → IsSorted es → IsSorted (remove_entry (is_pair k) es)
removed-sorted k [] s = s
removed-sorted k (e ∷ es) s =
    let more = sorted-cons e (remove_entry (is_pair k) es) (above-removed e.0 k es (sorted-head e es s)) (removed-sorted k es (sorted-tail e es s)) in
    ⊎_elim
    (λ is. rw is (sorted-tail e es s))
    (λ off. rw off more)
    (cases_Bool (is_pair k e.0))

-- ---- one pair more

module _ (own : Around) where
  abbrev key : List ℕ × List ℕ
  key = (own.name, own.text)

  own-at : (es : Names) → NonePasses (is_pair key) es → (q : List ℕ × List ℕ) → lookup (is_pair q) (with_own own es) ≡ cond (is_pair key q) (Some own.ids) (lookup (is_pair q) es)
  own-at [] none q = ap (λ b. cond b (Some own.ids) None) (pair_equiv.symm q key)
  own-at (e ∷ es) none q =
      ⊎_elim
      (λ less. rw less (ap (λ b. cond b (Some own.ids) (lookup (is_pair q) (e ∷ es))) (pair_equiv.symm q key)))
      (λ off. rw off (
      ap (cond (is_pair q e.0) (Some e.1)) (own-at es none.1 q)
      ∙ ⊎_elim
      (λ is.
      let other : is_pair q e.0 ≡ false = sym (one_pair key q e.0 is) ∙ none.0 in
      rw (is, other) refl)
      (λ apart. rw apart refl)
      (cases_Bool (is_pair key q))))
      (cases_Bool (is_lt (pair_cmp key e.0)))

  above-own : (x : List ℕ × List ℕ) (es : Names) → pair_cmp x key ≡ Less → AllAbove x es → AllAbove x (with_own own es)
  above-own x [] less h = (less, tt)
  above-own x (e ∷ es) less h =
      ⊎_elim
      (λ is. rw is (less, h))
      (λ off. rw off (h.0, above-own x es less h.1))
      (cases_Bool (is_lt (pair_cmp key e.0)))

  greater : (o : Ordering) → is_lt o ≡ false → is_eq o ≡ false → ordering_reverse o ≡ Less
  greater Less a b = absurd cc
  greater Equal a b = absurd cc
  greater Greater a b = refl

  less-is : (o : Ordering) → is_lt o ≡ true → o ≡ Less
  less-is Less e = refl
  less-is Equal e = absurd cc
  less-is Greater e = absurd cc

  own-sorted : (es : Names) → NonePasses (is_pair key) es → IsSorted es → IsSorted (with_own own es)
  own-sorted [] none s = sorted-cons (key, own.ids) [] tt s
  own-sorted (e ∷ es) none s =
      ⊎_elim
      (λ is.
      let less = less-is (pair_cmp key e.0) is in
      rw is (sorted-cons (key, own.ids) (e ∷ es) (less, less-above key e.0 less es (sorted-head e es s)) s))
      (λ off.
      let more : pair_cmp e.0 key ≡ Less = pair_total.antisymm e.0 key ∙ greater (pair_cmp key e.0) off none.0 in
      rw off (sorted-cons e (with_own own es) (above-own e.0 es more (sorted-head e es s)) (own-sorted es none.1 (sorted-tail e es s))))
      (cases_Bool (is_lt (pair_cmp key e.0)))

-- ---- lists of ids that aren't empty

some-with : (id : ℕ) (ids : List ℕ) → with_id id ids ≡ [] → ⊥
some-with id ids e =
    let step : (front back : List ℕ) → front ++ id ∷ back ≡ [] → ⊥ =
    elim [
      | [] ↦ λ back h. absurd cc
      | x ∷ xs ↦ λ back h. absurd cc
    ] in
    step (filter (λ x. nat_lt x id) ids) (filter (λ x. nat_lt id x) ids) e

some-ids : (xs ys : List ℕ) → Some xs ≡ Some ys → xs ≡ ys
some-ids xs ys e = ap or_none e

-- ---- an id that is put

pub record IsPutResult {E : Type 0} (result : Result Unit E) (name text : List ℕ) (id : ℕ) (old new : Names) : Type 0 where
  pub sorted : IsSorted new
  pub put : OnOk result (IsPut (is_this name text) id old new)
  pub unchanged : OnErr result (IsSame old new)
  pub lean : IsLean old → IsLean new

put-at : (name text : List ℕ) (id : ℕ) (old new : Names) → ((q : List ℕ × List ℕ) → or_none (lookup (is_pair q) new) ≡ cond (is_pair (name, text) q) (with_id id (or_none (lookup (is_pair q) old))) (or_none (lookup (is_pair q) old))) → IsPut (is_this name text) id old new
put-at name text id old new at n t = at (n, t) ∙ ap (λ b. cond b (with_id id (ids_in_names old n t)) (ids_in_names old n t)) (sym (this_pair name text n t))

pub put-there : {E : Type 0} (result : Result Unit E) (name text : List ℕ) (id : ℕ) (old new : Names) → IsSorted old → IsPutThere (Some result) (name, text) id old new → IsPutResult result name text id old new
put-there (Ok u) name text id old new s there =
    let k : List ℕ × List ℕ = (name, text) in
    let ids : List ℕ = there.0 in
    let is : new ≡ set_value (is_pair (name, text)) old (with_id id there.0) = there.2 in
    let updates : (q : List ℕ × List ℕ) → lookup (is_pair q) new ≡ cond (is_pair (name, text) q) (Some (with_id id there.0)) (lookup (is_pair q) old) = λ q. ap (lookup (is_pair q)) is ∙ set-at (name, text) old there.0 (with_id id there.0) there.1 q in
    let here : with_id id there.0 ≡ with_id id (or_none (lookup (is_pair (name, text)) old)) = ap (λ o. with_id id (or_none o)) (sym there.1) in
    record {
      sorted = subst IsSorted (sym is) (set-sorted (name, text) old (with_id id there.0) s);
      put = put-at name text id old new (ids-at (name, text) (with_id id) old new (Some (with_id id there.0)) updates here);
      unchanged = tt;
      lean = lean-at (name, text) old new (Some (with_id id there.0)) updates (λ e. some-with id there.0 (some-ids (with_id id there.0) [] e));
    }
put-there (Err f) name text id old new s there =
    let is : new ≡ old = there.3 in
    record {
      sorted = subst IsSorted (sym is) s;
      put = tt;
      unchanged = λ n t. ap (λ l. ids_in_names l n t) is;
      lean = λ lean. subst IsLean (sym is) lean;
    }

pub put-new : {E : Type 0} (name text : List ℕ) (id : ℕ) (old new : Names) (own : Around) → IsSorted old → lookup (is_pair (name, text)) old ≡ None → own.name ≡ name → own.text ≡ text → own.ids ≡ id ∷ [] → new ≡ with_own own old → IsPutResult {E = E} (Ok tt) name text id old new
put-new name text id old new own s none is_name is_text are is =
    let k : (own.name, own.text) ≡ (name, text) = λ i. (is_name i, is_text i) in
    let absent : NonePasses (is_pair (own.name, own.text)) old = subst (λ (p : List ℕ × List ℕ). NonePasses (is_pair p) old) (sym k) (none_passes_from_lookup (is_pair (name, text)) old none) in
    let updates : (q : List ℕ × List ℕ) → lookup (is_pair q) new ≡ cond (is_pair (name, text) q) (Some (id ∷ [])) (lookup (is_pair q) old) = λ q. ap (lookup (is_pair q)) is ∙ own-at own old absent q ∙ (λ i. cond (is_pair (k i) q) (Some (are i)) (lookup (is_pair q) old)) in
    let here : id ∷ [] ≡ with_id id (or_none (lookup (is_pair (name, text)) old)) = ap (λ o. with_id id (or_none o)) (sym none) in
    record {
      sorted = subst IsSorted (sym is) (own-sorted own old absent s);
      put = put-at name text id old new (ids-at (name, text) (with_id id) old new (Some (id ∷ [])) updates here);
      unchanged = tt;
      lean = lean-at (name, text) old new (Some (id ∷ [])) updates (λ e. some-with id [] (some-ids (id ∷ []) [] e));
    }

-- ---- an id that is taken out

pub record IsTakenResult (name text : List ℕ) (id : ℕ) (old new : Names) : Type 0 where
  pub sorted : IsSorted new
  pub taken : IsTaken (is_this name text) id old new
  pub lean : IsLean old → IsLean new

taken-at : (name text : List ℕ) (id : ℕ) (old new : Names) → ((q : List ℕ × List ℕ) → or_none (lookup (is_pair q) new) ≡ cond (is_pair (name, text) q) (without_id id (or_none (lookup (is_pair q) old))) (or_none (lookup (is_pair q) old))) → IsTaken (is_this name text) id old new
taken-at name text id old new at n t = at (n, t) ∙ ap (λ b. cond b (without_id id (ids_in_names old n t)) (ids_in_names old n t)) (sym (this_pair name text n t))

-- what is found at each pair after an id was taken out at one
taken-updates : (k : List ℕ × List ℕ) (id : ℕ) (old mid : Names) (found : Option (List ℕ)) → lookup (is_pair k) old ≡ found → mid ≡ set_value (is_pair k) old (without_id id (or_none (lookup (is_pair k) old)))
    → (q : List ℕ × List ℕ) → lookup (is_pair q) mid ≡ cond (is_pair k q) (lookup (is_pair k) mid) (lookup (is_pair q) old)
taken-updates k id old mid found is are q =
    ⊎_elim
    (λ same. rw same (ap (λ p. lookup (is_pair p) mid) (sym (same_pair k q same))))
    (λ off. rw off (step found is off))
    (cases_Bool (is_pair k q))
  where
    step : (o : Option (List ℕ)) → lookup (is_pair k) old ≡ o → is_pair k q ≡ false → lookup (is_pair q) mid ≡ lookup (is_pair q) old
    step (Some ids) there off = ap (lookup (is_pair q)) are ∙ set-at k old ids (without_id id (or_none (lookup (is_pair k) old))) there q ∙ ap (λ b. cond b (Some (without_id id (or_none (lookup (is_pair k) old)))) (lookup (is_pair q) old)) off
    step None none off = ap (lookup (is_pair q)) (are ∙ set-none (is_pair k) old (without_id id (or_none (lookup (is_pair k) old))) (none_passes_from_lookup (is_pair k) old none))

itself : (k : List ℕ × List ℕ) → is_pair k k ≡ true
itself k = ap is_eq (tied_itself pair_total k)

-- the ids that are left
taken-here : (k : List ℕ × List ℕ) (id : ℕ) (old mid : Names) (found : Option (List ℕ)) → lookup (is_pair k) old ≡ found → mid ≡ set_value (is_pair k) old (without_id id (or_none (lookup (is_pair k) old)))
    → or_none (lookup (is_pair k) mid) ≡ without_id id (or_none (lookup (is_pair k) old))
taken-here k id old mid (Some ids) there are =
    let w : List ℕ = without_id id (or_none (lookup (is_pair k) old)) in
    ap or_none (ap (lookup (is_pair k)) are ∙ set-at k old ids w there k ∙ ap (λ b. cond b (Some w) (lookup (is_pair k) old)) (itself k))
taken-here k id old mid None none are =
    ap (λ l. or_none (lookup (is_pair k) l)) (are ∙ set-none (is_pair k) old (without_id id (or_none (lookup (is_pair k) old))) (none_passes_from_lookup (is_pair k) old none))
    ∙ ap or_none none ∙ sym (ap (λ o. without_id id (or_none o)) none)

none-is-left : (o : Option (List ℕ)) → true ≡ is_none_left o → or_none o ≡ []
none-is-left None e = refl
none-is-left (Some []) e = refl
none-is-left (Some (x ∷ xs)) e = absurd cc

some-is-left : (o : Option (List ℕ)) → false ≡ is_none_left o → o ≡ Some [] → ⊥
some-is-left o e is = let wrong : false ≡ true = e ∙ ap is_none_left is in absurd cc

pub take-kept : (name text : List ℕ) (id : ℕ) (left : Bool) (old mid : Names) → left ≡ false → IsSorted old → IsTakenThere left (name, text) id old mid → IsTakenResult name text id old mid
take-kept name text id left old mid kept s there =
    let updates = taken-updates (name, text) id old mid (lookup (is_pair (name, text)) old) refl there.0 in
    let here = taken-here (name, text) id old mid (lookup (is_pair (name, text)) old) refl there.0 in
    record {
      sorted = subst IsSorted (sym there.0) (set-sorted (name, text) old (without_id id (or_none (lookup (is_pair (name, text)) old))) s);
      taken = taken-at name text id old mid (ids-at (name, text) (without_id id) old mid (lookup (is_pair (name, text)) mid) updates here);
      lean = lean-at (name, text) old mid (lookup (is_pair (name, text)) mid) updates (some-is-left (lookup (is_pair (name, text)) mid) (sym kept ∙ there.1));
    }

pub take-gone : (name text : List ℕ) (id : ℕ) (left : Bool) (old mid new : Names) → left ≡ true → IsSorted old → IsTakenThere left (name, text) id old mid → new ≡ remove_entry (is_pair (name, text)) mid → IsTakenResult name text id old new
take-gone name text id left old mid new gone s there is =
    let sorted : IsSorted mid = subst IsSorted (sym there.0) (set-sorted (name, text) old (without_id id (or_none (lookup (is_pair (name, text)) old))) s) in
    let here = taken-here (name, text) id old mid (lookup (is_pair (name, text)) old) refl there.0 in
    let updates : (q : List ℕ × List ℕ) → lookup (is_pair q) new ≡ cond (is_pair (name, text) q) None (lookup (is_pair q) old) =
    λ q. ap (lookup (is_pair q)) is ∙ gone-at (name, text) mid sorted q ∙ ⊎_elim
    (λ same. rw same refl)
    (λ off. rw off (taken-updates (name, text) id old mid (lookup (is_pair (name, text)) old) refl there.0 q ∙ ap (λ b. cond b (lookup (is_pair (name, text)) mid) (lookup (is_pair q) old)) off))
    (cases_Bool (is_pair (name, text) q)) in
    let none : [] ≡ without_id id (or_none (lookup (is_pair (name, text)) old)) = sym (none-is-left (lookup (is_pair (name, text)) mid) (sym gone ∙ there.1)) ∙ here in
    record {
      sorted = subst IsSorted (sym is) (removed-sorted (name, text) mid sorted);
      taken = taken-at name text id old new (ids-at (name, text) (without_id id) old new None updates none);
      lean = lean-at (name, text) old new None updates (λ e. absurd cc);
    }

pub there-sorted : (k : List ℕ × List ℕ) (id : ℕ) (left : Bool) (old new : Names) → IsSorted old → IsTakenThere left k id old new → IsSorted new
there-sorted k id left old new s there = subst IsSorted (sym there.0) (set-sorted k old (without_id id (or_none (lookup (is_pair k) old))) s)

pub none-sorted : IsSorted []
unfolding IsStrictlySortedBy
none-sorted = tt
