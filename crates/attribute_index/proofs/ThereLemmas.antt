-- An id that is put or taken out on one side of a branch, or at its own pair.
use Rattle.std.proofs.Common.{◌≡◌, ◌==◌, ℕ, Bool, true, false, cond, List, [], ◌∷◌, ◌++◌, Option, Some, None, Result, length, length-append, arith, refl, sym, ap, ◌∙◌}
use Rattle.std.specs.Prelude.{OnOk, OnErr}
use Rattle.std.specs.Map.{lookup, set_value}
use Rattle.std.specs.Ordering.{is_eq}
use Rattle.std.specs.declared.cmp.Ordering.TheVariants.{Less, Equal, Greater}
use Rattle.std.proofs.lemmas.Bool.{ne_eqb}
use Rattle.std.proofs.lemmas.Result.{on_ok_weaker, on_err_weaker}
use Rattle.kr_base.specs.IdLists.{with_id, without_id}
use Rattle.attribute_index.specs.Around.{Around, all_of, between}
use Rattle.attribute_index.specs.Index.{IsPutThere, IsSorted, IsTakenThere, Names, is_none_left, is_pair, or_none, pair_cmp}
use Rattle.attribute_index.proofs.BranchLemmas.{found-before, found-after, found-same, written-before, written-after, written-same, none-after, none-before, none-same, lookup-front, lookup-back}

module _ (was own : Around) (view : was ≡ own) (s : IsSorted (all_of own)) (k : List ℕ × List ℕ) where
  abbrev entry : (List ℕ × List ℕ) × List ℕ
  entry = ((own.name, own.text), own.ids)

  -- ---- the sides

  on-before : (side : Names) → was.before ≡ side → own.before ≡ side
  on-before side is = sym (ap (λ (a : Around). a.before) view) ∙ is

  on-after : (side : Names) → was.after ≡ side → own.after ≡ side
  on-after side is = sym (ap (λ (a : Around). a.after) view) ∙ is

  -- ---- look-ups

  pub get-before : (side : Names) (found : Option (List ℕ)) → was.before ≡ side → Less ≡ pair_cmp k (own.name, own.text) → found ≡ lookup (is_pair k) side → found ≡ lookup (is_pair k) (all_of own)
  get-before side found is less get = get ∙ ap (lookup (is_pair k)) (sym (on-before side is)) ∙ sym (found-before own (all_of own) own.before own.after refl s k (sym less))

  pub get-after : (side : Names) (found : Option (List ℕ)) → was.after ≡ side → Greater ≡ pair_cmp k (own.name, own.text) → found ≡ lookup (is_pair k) side → found ≡ lookup (is_pair k) (all_of own)
  get-after side found is more get = get ∙ ap (lookup (is_pair k)) (sym (on-after side is)) ∙ sym (found-after own (all_of own) own.before own.after refl s k (sym more))

  pub get-same : Equal ≡ pair_cmp k (own.name, own.text) → Some was.ids ≡ lookup (is_pair k) (all_of own)
  get-same same = ap (λ (a : Around). Some a.ids) view ∙ sym (found-same own (all_of own) own.before own.after refl s k (sym same))

  -- ---- an id that is put

  pub put-before : {E : Type 0} (id : ℕ) (result : Option (Result Unit E)) (side new now : Names) → was.before ≡ side → Less ≡ pair_cmp k (own.name, own.text) → IsPutThere result k id side new → (rest : Names) → was.after ≡ rest → now ≡ between new was rest → IsPutThere result k id (all_of own) now
  put-before id None side new now is less put rest other at =
      let same : now ≡ all_of own = at ∙ ap (between new was) (sym other) ∙ ap (λ (a : Around). between new a a.after) view ∙ ap (λ l. between l own own.after) (put.0 ∙ sym (on-before side is)) in
      (same, sym (get-before side None is less (sym put.1)))
  put-before id (Some result) side new now is less put rest other at =
      let whole : now ≡ between new own own.after = at ∙ ap (between new was) (sym other) ∙ ap (λ (a : Around). between new a a.after) view in
      let put-at = on_ok_weaker result (λ (h : new ≡ set_value (is_pair k) side (with_id id put.0)). whole ∙ ap (λ l. between l own own.after) (h ∙ ap (λ l. set_value (is_pair k) l (with_id id put.0)) (sym (on-before side is))) ∙ sym (written-before own (all_of own) own.before own.after refl s k (with_id id put.0) (sym less))) put.2 in
      let same = on_err_weaker result (λ (h : new ≡ side). whole ∙ ap (λ l. between l own own.after) (h ∙ sym (on-before side is))) put.3 in
      (put.0, sym (get-before side (Some put.0) is less (sym put.1)), put-at, same)

  pub put-after : {E : Type 0} (id : ℕ) (result : Option (Result Unit E)) (side new now : Names) → was.after ≡ side → Greater ≡ pair_cmp k (own.name, own.text) → IsPutThere result k id side new → (rest : Names) → was.before ≡ rest → now ≡ between rest was new → IsPutThere result k id (all_of own) now
  put-after id None side new now is more put rest other at =
      let same : now ≡ all_of own = at ∙ ap (λ l. between l was new) (sym other) ∙ ap (λ (a : Around). between a.before a new) view ∙ ap (between own.before own) (put.0 ∙ sym (on-after side is)) in
      (same, sym (get-after side None is more (sym put.1)))
  put-after id (Some result) side new now is more put rest other at =
      let whole : now ≡ between own.before own new = at ∙ ap (λ l. between l was new) (sym other) ∙ ap (λ (a : Around). between a.before a new) view in
      let put-at = on_ok_weaker result (λ (h : new ≡ set_value (is_pair k) side (with_id id put.0)). whole ∙ ap (between own.before own) (h ∙ ap (λ l. set_value (is_pair k) l (with_id id put.0)) (sym (on-after side is))) ∙ sym (written-after own (all_of own) own.before own.after refl s k (with_id id put.0) (sym more))) put.2 in
      let same = on_err_weaker result (λ (h : new ≡ side). whole ∙ ap (between own.before own) (h ∙ sym (on-after side is))) put.3 in
      (put.0, sym (get-after side (Some put.0) is more (sym put.1)), put-at, same)

  pub put-same : {E : Type 0} (id : ℕ) (result : Result Unit E) (ids : List ℕ) (now : Names) → Equal ≡ pair_cmp k (own.name, own.text) → OnOk result (ids ≡ with_id id was.ids) → OnErr result (ids ≡ was.ids) → now ≡ was.before ++ ((was.name, was.text), ids) ∷ was.after → IsPutThere (Some result) k id (all_of own) now
  put-same id result ids now same put unchanged at =
      let whole : now ≡ own.before ++ ((own.name, own.text), ids) ∷ own.after = at ∙ ap (λ (a : Around). a.before ++ ((a.name, a.text), ids) ∷ a.after) view in
      let put-at = on_ok_weaker result (λ (h : ids ≡ with_id id was.ids). whole ∙ ap (λ l. own.before ++ ((own.name, own.text), l) ∷ own.after) (h ∙ ap (λ (a : Around). with_id id a.ids) view) ∙ sym (written-same own (all_of own) own.before own.after refl s k (with_id id own.ids) (sym same))) put in
      let kept = on_err_weaker result (λ (h : ids ≡ was.ids). whole ∙ ap (λ l. own.before ++ ((own.name, own.text), l) ∷ own.after) (h ∙ ap (λ (a : Around). a.ids) view)) unchanged in
      (own.ids, found-same own (all_of own) own.before own.after refl s k (sym same), put-at, kept)

  pub put-none-before : (now : Names) → was.before ≡ [] → Less ≡ pair_cmp k (own.name, own.text) → now ≡ all_of was → (now ≡ all_of own) × (lookup (is_pair k) (all_of own) ≡ None)
  put-none-before now is less at = (at ∙ ap all_of view, sym (get-before [] None is less refl))

  pub put-none-after : (now : Names) → was.after ≡ [] → Greater ≡ pair_cmp k (own.name, own.text) → now ≡ all_of was → (now ≡ all_of own) × (lookup (is_pair k) (all_of own) ≡ None)
  put-none-after now is more at = (at ∙ ap all_of view, sym (get-after [] None is more refl))

  -- ---- an id that is taken out

  pub take-before : (id : ℕ) (left : Bool) (side new now : Names) → was.before ≡ side → Less ≡ pair_cmp k (own.name, own.text) → IsTakenThere left k id side new → (rest : Names) → was.after ≡ rest → now ≡ between new was rest → IsTakenThere left k id (all_of own) now
  take-before id left side new now is less take rest other at =
      let whole : now ≡ between new own own.after = at ∙ ap (between new was) (sym other) ∙ ap (λ (a : Around). between new a a.after) view in
      let found : lookup (is_pair k) side ≡ lookup (is_pair k) (all_of own) = get-before side (lookup (is_pair k) side) is less refl in
      let w : List ℕ = without_id id (or_none (lookup (is_pair k) (all_of own))) in
      let set : new ≡ set_value (is_pair k) own.before w = take.0 ∙ (λ i. set_value (is_pair k) (sym (on-before side is) i) (without_id id (or_none (found i)))) in
      let here : lookup (is_pair k) now ≡ lookup (is_pair k) new = ap (lookup (is_pair k)) whole ∙ lookup-front (is_pair k) new (entry ∷ own.after) (none-after k own.before own.after entry s (sym less)) in
      (whole ∙ ap (λ l. between l own own.after) set ∙ sym (written-before own (all_of own) own.before own.after refl s k w (sym less)), take.1 ∙ ap is_none_left (sym here))

  pub take-after : (id : ℕ) (left : Bool) (side new now : Names) → was.after ≡ side → Greater ≡ pair_cmp k (own.name, own.text) → IsTakenThere left k id side new → (rest : Names) → was.before ≡ rest → now ≡ between rest was new → IsTakenThere left k id (all_of own) now
  take-after id left side new now is more take rest other at =
      let whole : now ≡ between own.before own new = at ∙ ap (λ l. between l was new) (sym other) ∙ ap (λ (a : Around). between a.before a new) view in
      let found : lookup (is_pair k) side ≡ lookup (is_pair k) (all_of own) = get-after side (lookup (is_pair k) side) is more refl in
      let w : List ℕ = without_id id (or_none (lookup (is_pair k) (all_of own))) in
      let set : new ≡ set_value (is_pair k) own.after w = take.0 ∙ (λ i. set_value (is_pair k) (sym (on-after side is) i) (without_id id (or_none (found i)))) in
      let off : is_pair k (own.name, own.text) ≡ false = ap is_eq (sym more) in
      let here : lookup (is_pair k) now ≡ lookup (is_pair k) new =
      ap (lookup (is_pair k)) whole ∙ lookup-back (is_pair k) own.before (entry ∷ new) (none-before k own.before own.after entry s (sym more)) ∙ ap (λ b. cond b (Some own.ids) (lookup (is_pair k) new)) off in
      (whole ∙ ap (between own.before own) set ∙ sym (written-after own (all_of own) own.before own.after refl s k w (sym more)), take.1 ∙ ap is_none_left (sym here))

  none-left : (ids : List ℕ) (count : ℕ) → count ≡ length ids → (count == 0) ≡ is_none_left (Some ids)
  none-left [] count is = rw is refl
  none-left (x ∷ xs) count is = ne_eqb count 0 (λ e. omega (arith, e, is))

  pub take-same : (id count : ℕ) (ids : List ℕ) (now : Names) → Equal ≡ pair_cmp k (own.name, own.text) → ids ≡ without_id id was.ids → count ≡ length ids → now ≡ was.before ++ ((was.name, was.text), ids) ∷ was.after → IsTakenThere (count == 0) k id (all_of own) now
  take-same id count ids now same take len at =
      let whole : now ≡ own.before ++ ((own.name, own.text), ids) ∷ own.after = at ∙ ap (λ (a : Around). a.before ++ ((a.name, a.text), ids) ∷ a.after) view in
      let found : lookup (is_pair k) (all_of own) ≡ Some own.ids = found-same own (all_of own) own.before own.after refl s k (sym same) in
      let w : List ℕ = without_id id (or_none (lookup (is_pair k) (all_of own))) in
      let set : ids ≡ w = take ∙ ap (λ (a : Around). without_id id a.ids) view ∙ ap (λ o. without_id id (or_none o)) (sym found) in
      let yes : is_pair k (own.name, own.text) ≡ true = ap is_eq (sym same) in
      let here : lookup (is_pair k) now ≡ Some ids =
      ap (lookup (is_pair k)) whole ∙ lookup-back (is_pair k) own.before (((own.name, own.text), ids) ∷ own.after) (none-same k own.before own.after entry s (sym same)) ∙ ap (λ b. cond b (Some ids) (lookup (is_pair k) own.after)) yes in
      (whole ∙ ap (λ l. own.before ++ ((own.name, own.text), l) ∷ own.after) set ∙ sym (written-same own (all_of own) own.before own.after refl s k w (sym same)), none-left ids count len ∙ ap is_none_left (sym here))

  pub take-none-before : (id : ℕ) (now : Names) → was.before ≡ [] → Less ≡ pair_cmp k (own.name, own.text) → now ≡ all_of was → IsTakenThere false k id (all_of own) now
  take-none-before id now is less at =
      let same : now ≡ all_of own = at ∙ ap all_of view in
      let none : lookup (is_pair k) (all_of own) ≡ None = sym (get-before [] None is less refl) in
      let w : List ℕ = without_id id (or_none (lookup (is_pair k) (all_of own))) in
      let kept = written-before own (all_of own) own.before own.after refl s k w (sym less) ∙ ap (λ l. between (set_value (is_pair k) l w) own own.after) (on-before [] is) ∙ ap (λ l. between l own own.after) (sym (on-before [] is)) in
      (same ∙ sym kept, sym (ap is_none_left (ap (lookup (is_pair k)) same ∙ none)))

  pub take-none-after : (id : ℕ) (now : Names) → was.after ≡ [] → Greater ≡ pair_cmp k (own.name, own.text) → now ≡ all_of was → IsTakenThere false k id (all_of own) now
  take-none-after id now is more at =
      let same : now ≡ all_of own = at ∙ ap all_of view in
      let none : lookup (is_pair k) (all_of own) ≡ None = sym (get-after [] None is more refl) in
      let w : List ℕ = without_id id (or_none (lookup (is_pair k) (all_of own))) in
      let kept = written-after own (all_of own) own.before own.after refl s k w (sym more) ∙ ap (λ l. between own.before own (set_value (is_pair k) l w)) (on-after [] is) ∙ ap (between own.before own) (sym (on-after [] is)) in
      (same ∙ sym kept, sym (ap is_none_left (ap (lookup (is_pair k)) same ∙ none)))

-- ---- how many pairs there are

module _ (was own : Around) (view : was ≡ own) (rest now : Names) where
  pub count-before : (side new : Names) → was.before ≡ side → was.after ≡ rest → length new ≡ length side → now ≡ between new was rest → length now ≡ length (all_of own)
  count-before side new is other same at =
      omega (arith, ap (λ l. length l) at, length-append new (((was.name, was.text), was.ids) ∷ rest), same, ap (λ l. length l) is, ap (λ l. length l) other, length-append was.before (((was.name, was.text), was.ids) ∷ was.after), ap (λ (a : Around). length (all_of a)) view)

  pub count-after : (side new : Names) → was.after ≡ side → was.before ≡ rest → length new ≡ length side → now ≡ between rest was new → length now ≡ length (all_of own)
  count-after side new is other same at =
      omega (arith, ap (λ l. length l) at, length-append rest (((was.name, was.text), was.ids) ∷ new), same, ap (λ l. length l) is, ap (λ l. length l) other, length-append was.before (((was.name, was.text), was.ids) ∷ was.after), ap (λ (a : Around). length (all_of a)) view)

pub count-same : (was own : Around) (now : Names) → was ≡ own → now ≡ all_of was → length now ≡ length (all_of own)
count-same was own now view at = ap (λ l. length l) at ∙ ap (λ (a : Around). length (all_of a)) view
