-- What is noted of items, and what the pairs have that are made of it.
use Rattle.std.proofs.Common.{◌≡◌, ℕ, ◌+◌, ◌<◌, ◌==◌, ◌&&◌, ◌||◌, Bool, true, false, List, [], ◌∷◌, ◌++◌, drop, get_or, length, Ok, map, refl, sym, ap, subst, ◌∙◌, ⊎_elim, arith, append_assoc}
use denote.Ref.{Bor}
use Rattle.std.specs.List.Sorted.{IsPermutation, IsStrictlySortedBy}
use Rattle.std.specs.Ordering.{is_lt}
use Rattle.std.specs.declared.cmp.Ordering.TheVariants.{Equal, Greater}
use Rattle.std.proofs.lemmas.Bool.{cases_Bool}
use Rattle.std.proofs.lemmas.Bool.Decides.{nat_tests}
use Rattle.std.proofs.lemmas.List.{drop_more}
use Rattle.std.proofs.lemmas.List.Folds.{list_any-append}
use Rattle.std.proofs.lemmas.List.Sorted.{list_any-IsPermutation}
use Rattle.kr_base.specs.Attributes.{is_name}
use Rattle.kr_base.specs.IdLists.{IsIdList, has_id, with_id}
use Rattle.kr_base.specs.declared.ids.ItemId.{ItemId}
use Rattle.kr_base.specs.declared.attributes.AttrValue.{AttrValue}
use Rattle.attribute_match.specs.Match.{has_pair, text_of}
use Rattle.attribute_index.specs.Entries.{HasSame, IsKept, IsMadeOf, IsPutAt, some_is, Items, Noted, entries_of, entry_of, is_entry, is_noted, some_has}
use Rattle.attribute_index.specs.Index.{AllRise, IsLean, IsPut, IsSorted, Names, ids_in_names, is_this, pair_cmp}
use Rattle.attribute_index.specs.Around.{Around}
use Rattle.attribute_index.proofs.BranchLemmas.{lookup-after, lookup-same, own-after, set-same}
use Rattle.attribute_index.proofs.KeptLemmas.{IsPutResult, none-sorted, put-new, put-there}
use Rattle.attribute_index.proofs.FindLemmas.{has-with}
use Rattle.attribute_index.proofs.PairLemmas.{rise-put, turned}

-- ---- what is noted of items

module _ (n t : List ℕ) (id : ℕ) where
  and-bits : (a b hit : Bool) → ((hit && b) || (b && a)) ≡ (b && (hit || a))
  and-bits a true true = refl
  and-bits a true false = refl
  and-bits a false true = refl
  and-bits a false false = refl

  none-noted : (b : Bool) → (b && false) ≡ false
  none-noted true = refl
  none-noted false = refl

  item-noted : (of : ℕ) (pairs : List (List ℕ × AttrValue)) → is_noted (map (entry_of of) pairs) n t id ≡ ((of == id) && has_pair n t pairs)
  item-noted of [] = sym (none-noted (of == id))
  item-noted of (pair ∷ pairs) =
      ap (λ b. is_entry n t id (entry_of of pair) || b) (item-noted of pairs)
      ∙ and-bits (has_pair n t pairs) (of == id) (is_name n pair.0 && is_name t (text_of pair.1))

  all-noted : (items : Items) → is_noted (entries_of items) n t id ≡ some_has items n t id
  all-noted [] = refl
  all-noted (item ∷ items) =
      list_any-append (is_entry n t id) (map (entry_of item.0.0) item.1.now) (entries_of items)
      ∙ (λ i. item-noted item.0.0 item.1.now i || all-noted items i)

  pub sorted-noted : (items : Items) (entries sorted : List Noted) → entries ≡ entries_of items → IsPermutation entries sorted → is_noted sorted n t id ≡ some_has items n t id
  sorted-noted items entries sorted are same = sym (list_any-IsPermutation (is_entry n t id) entries sorted same) ∙ ap (λ l. is_noted l n t id) are ∙ all-noted items

-- ---- an order of tests that doesn't matter

other-way : (x id : ℕ) → (x == id) ≡ (id == x)
other-way x id = grind (arith, nat_tests)

put-bits : (e o l r : Bool) → ((e || o) || (l || r)) ≡ (o || (l || (e || r)))
put-bits true true l r = refl
put-bits true false true r = refl
put-bits true false false r = refl
put-bits false o l r = refl

-- ---- an id that is put at one pair

module _ (name text : List ℕ) (id : ℕ) where
  own-entry : (n t : List ℕ) (x : ℕ) → is_entry n t x ((name, text), id) ≡ (is_this name text n t && (id == x))
  own-entry n t x = λ i. (turned n name i && turned t text i) && (id == x)

  put-has : (old new : Names) → IsPut (is_this name text) id old new → (n t : List ℕ) (x : ℕ) → has_id (ids_in_names new n t) x ≡ (is_entry n t x ((name, text), id) || has_id (ids_in_names old n t) x)
  put-has old new put n t x =
      ⊎_elim
      (λ is.
      let now : ids_in_names new n t ≡ with_id id (ids_in_names old n t) = rw is at (put n t) in
      ap (λ l. has_id l x) now ∙ has-with id (ids_in_names old n t) x ∙ ap (λ b. b || has_id (ids_in_names old n t) x) (other-way x id ∙ sym (own-entry n t x ∙ ap (λ b. b && (id == x)) is)))
      (λ off.
      let now : ids_in_names new n t ≡ ids_in_names old n t = rw off at (put n t) in
      ap (λ l. has_id l x) now ∙ ap (λ b. b || has_id (ids_in_names old n t) x) (sym (own-entry n t x ∙ ap (λ b. b && (id == x)) off)))
      (cases_Bool (is_this name text n t))

  -- what was noted is at its pair, and need not be noted any more
  pub put-same : (old new : Names) → IsPut (is_this name text) id old new → (left rest : List Noted) → HasSame new (left ++ rest) old (left ++ ((name, text), id) ∷ rest)
  put-same old new put left rest n t x =
      (λ i. put-has old new put n t x i || list_any-append (is_entry n t x) left rest i)
      ∙ put-bits (is_entry n t x ((name, text), id)) (has_id (ids_in_names old n t) x) (is_noted left n t x) (is_noted rest n t x)
      ∙ ap (λ b. has_id (ids_in_names old n t) x || b) (sym (list_any-append (is_entry n t x) left (((name, text), id) ∷ rest)))

-- ---- the last of the pairs

IsPutAt-from : (name text : List ℕ) (id : ℕ) (old new : Names) → id < 4294967296 → IsPutResult {E = Unit} (Ok tt) name text id old new → IsPutAt name text id old new
IsPutAt-from name text id old new small is = record {
  sorted = is.sorted;
  put = is.put;
  rise = λ rising. rise-put (is_this name text) id old new small rising is.put;
  lean = is.lean;
}

module _ (name text : List ℕ) (id : ℕ) (small : id < 4294967296) (es : Names) (e : (List ℕ × List ℕ) × List ℕ) (s : IsSorted (es ++ e ∷ [])) (new : Names) where
  put-there-last : Equal ≡ pair_cmp (name, text) e.0 → new ≡ es ++ (e.0, with_id id e.1) ∷ [] → IsPutAt name text id (es ++ e ∷ []) new
  put-there-last same is =
      let there = lookup-same (name, text) es [] e s (sym same) in
      let set = set-same (name, text) es [] e (with_id id e.1) s (sym same) in
      IsPutAt-from name text id (es ++ e ∷ []) new small (put-there {E = Unit} (Ok tt) name text id (es ++ e ∷ []) new s (e.1, there, is ∙ sym set, tt))

  pub put-after : Greater ≡ pair_cmp (name, text) e.0 → new ≡ (es ++ e ∷ []) ++ ((name, text), id ∷ []) ∷ [] → IsPutAt name text id (es ++ e ∷ []) new
  put-after more is =
      let own : Around = record { before = []; name = name; text = text; ids = id ∷ []; after = []; under = 0 } in
      let none = lookup-after (name, text) es [] e s (sym more) in
      let at = own-after own es [] e s (sym (ap is_lt more)) in
      IsPutAt-from name text id (es ++ e ∷ []) new small (put-new {E = Unit} name text id (es ++ e ∷ []) new own s none refl refl refl (is ∙ append_assoc es (e ∷ []) (((name, text), id ∷ []) ∷ []) ∙ sym at))

-- the last branch as it was while it was borrowed
pub put-last : (name text : List ℕ) (id : ℕ) → id < 4294967296 → (es : Names) (was own : Around) → was ≡ own → IsSorted (es ++ ((own.name, own.text), own.ids) ∷ []) → Equal ≡ pair_cmp (name, text) (own.name, own.text) → (ids : List ℕ) → ids ≡ with_id id was.ids
    → IsPutAt name text id (es ++ ((own.name, own.text), own.ids) ∷ []) (es ++ ((was.name, was.text), ids) ∷ [])
put-last name text id small es was own view s same ids put =
    put-there-last name text id small es ((own.name, own.text), own.ids) s (es ++ ((was.name, was.text), ids) ∷ []) same (
    ap (λ l. es ++ ((was.name, was.text), l) ∷ []) put
    ∙ ap (λ (a : Around). es ++ ((a.name, a.text), with_id id a.ids) ∷ []) view)

pub put-first : (name text : List ℕ) (id : ℕ) (new : Names) → id < 4294967296 → new ≡ ((name, text), id ∷ []) ∷ [] → IsPutAt name text id [] new
put-first name text id new small is =
    let own : Around = record { before = []; name = name; text = text; ids = id ∷ []; after = []; under = 0 } in
    IsPutAt-from name text id [] new small (put-new {E = Unit} name text id [] new own none-sorted refl refl refl refl is)

-- ---- the entries one by one

pub kept-put : (name text : List ℕ) (id : ℕ) (old new : Names) → IsPutAt name text id old new → IsKept old → IsKept new
kept-put name text id old new put kept = record { sorted = put.sorted; rise = put.rise kept.rise; lean = put.lean kept.lean }

module _ (entries : List Noted) (place : ℕ) (e : Noted) (lt : place < length entries) (is : e ≡ get_or entries place e) (left : List Noted) (old new : Names) where
  left-at : left ++ drop place entries ≡ left ++ e ∷ drop (place + 1) entries
  left-at = ap (λ l. left ++ l) (drop_more entries place e lt ∙ ap (λ x. x ∷ drop (place + 1) entries) (sym is))

  pub put-next : IsPut (is_this e.0.0 e.0.1) e.1 old new → HasSame new (left ++ drop (place + 1) entries) old (left ++ drop place entries)
  put-next put = subst (HasSame new (left ++ drop (place + 1) entries) old) (sym left-at) (put-same e.0.0 e.0.1 e.1 old new put left (drop (place + 1) entries))

  pub left-next : new ≡ old → (now : List Noted) → now ≡ left ++ e ∷ [] → HasSame new (now ++ drop (place + 1) entries) old (left ++ drop place entries)
  left-next same now more n t x =
      let are : now ++ drop (place + 1) entries ≡ left ++ drop place entries = ap (λ l. l ++ drop (place + 1) entries) more ∙ append_assoc left (e ∷ []) (drop (place + 1) entries) ∙ sym left-at in
      λ i. has_id (ids_in_names (same i) n t) x || is_noted (are i) n t x

none-ids : IsIdList []
unfolding IsStrictlySortedBy
none-ids = record { rising = tt; small = tt }

pub none-kept : IsKept []
none-kept = record { sorted = none-sorted; rise = λ n t. none-ids; lean = λ n t e. absurd cc }

or-none : (b : Bool) → (b || false) ≡ b
or-none true = refl
or-none false = refl

pub made : (first : Noted) (rest left : List Noted) (one chain new : Names) → IsPutAt first.0.0 first.0.1 first.1 [] one → HasSame chain left one rest → HasSame new [] chain left → AllRise new → IsLean new → IsMadeOf (first ∷ rest) new
made first rest left one chain new put mid end rise lean = record {
  rise = rise;
  lean = lean;
  each = λ n t x. sym (or-none (has_id (ids_in_names new n t) x)) ∙ end n t x ∙ mid n t x ∙ put-same first.0.0 first.0.1 first.1 [] one put.put [] rest n t x;
}

pub made-none : (entries : List Noted) → length entries ≡ 0 → (names : Names) → names ≡ [] → IsMadeOf entries names
made-none [] none names is = rw is (record { rise = none-kept.rise; lean = none-kept.lean; each = λ n t x. refl })
made-none (e ∷ es) none names is = absurd cc

-- ---- all ids

id-bits : (e h r : Bool) → ((e || h) || r) ≡ (h || (e || r))
id-bits true true r = refl
id-bits true false r = refl
id-bits false h r = refl

pub id-next : (items : Items) (place : ℕ) (d : ItemId × Bor (List (List ℕ × AttrValue))) → place < length items → (ids new : List ℕ) → new ≡ with_id (get_or items place d).0.0 ids
    → (x : ℕ) → (has_id new x || some_is (drop (place + 1) items) x) ≡ (has_id ids x || some_is (drop place items) x)
id-next items place d lt ids new put x =
    let id : ℕ = (get_or items place d).0.0 in
    ap (λ b. b || some_is (drop (place + 1) items) x) (ap (λ l. has_id l x) put ∙ has-with id ids x ∙ ap (λ b. b || has_id ids x) (other-way x id))
    ∙ id-bits (id == x) (has_id ids x) (some_is (drop (place + 1) items) x)
    ∙ ap (λ l. has_id ids x || some_is l x) (sym (drop_more items place d lt))
