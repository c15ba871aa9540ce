-- The index beside the rows, after each change of a row.
use denote.Ref.{Bor}
use Rattle.std.proofs.Common.{◌≡◌, ℕ, ◌<◌, ◌==◌, ◌&&◌, ◌||◌, not, Bool, true, false, cond, List, [], ◌∷◌, ◌++◌, Option, Some, None, refl, sym, ap, subst, ◌∙◌, ⊎_elim, arith, filter, map, ◌+◌, ◌*◌, ◌≤◌, length, take, drop, get_or}
use Rattle.std.specs.List.{list_all, list_any}
use Rattle.std.specs.Map.{keys_of}
use Rattle.std.specs.Option.{option_map}
use Rattle.std.proofs.lemmas.Bool.{cases_Bool, eqb-true}
use Rattle.std.proofs.lemmas.Bool.Decides.{nat_tests}
use Rattle.std.specs.Option.{is_some}
use Rattle.std.specs.Ordering.{nat_cmp}
use Rattle.std.proofs.lemmas.Map.Entries.{length-keys_of}
use Rattle.std.proofs.lemmas.List.{take-append-drop, drop_more, take_all}
use Rattle.std.proofs.lemmas.List.Elements.{filter-append, filter_more}
use Rattle.std.proofs.lemmas.List.Kept.{IsStrictlySortedBy-filter}
use Rattle.attribute_index.proofs.FindLemmas.{has-filter, has-with}
use Rattle.std.specs.Prelude.{IfSome}
use Rattle.kr_base.specs.IdLists.{has_id, with_id, without_id}
use Rattle.kr_base.specs.declared.attributes.AttrValue.{AttrValue}
use Rattle.kr_base.specs.declared.ids.ItemId.{ItemId}
use Rattle.kr_base.proofs.IdLemmas.{Rises, AllBelow, lower-below, upper-below}
use Rattle.kr_base.specs.Attributes.{is_name}
use Rattle.attribute_match.specs.Match.{has_pair, is_equal, matches, text_of}
use Rattle.attribute_index.specs.Entries.{IsIndexOf, Items}
use Rattle.attribute_index.specs.Index.{Index, IsAtJust, IsFound, IsMoved, IsPut, IsSame, IsTaken, ids_at, in_each, is_own, wanted_lists}
use Rattle.attribute_index.proofs.PairLemmas.{without-lacking}
use Rattle.item_store.specs.Rows.{AreOf, IsIndexed, IsKept, IsRising, Row, Rows, attributes_of, candidates, first_id, given_of, given_row, has_just, ids_where, pair_lists, passes_at, row_at, rows_changed, rows_without}
use Rattle.item_store.proofs.RowLemmas.{rises-same, with-rises, without-rises, has-without, where-rises, has-where, at-without, at-changed, at-above, at-added, keys-changed, keys-without, keys-added, rising-changed, rising-without, rising-added}

abbrev has : List ℕ → List ℕ → Row → Bool
has n t row = has_pair n t (attributes_of row)

-- ---- where an id is

pub at-just : (rows : Rows) (index : Index) → IsRising rows → IsIndexed rows index → (id : ℕ) (row : Row) → row_at id rows ≡ Some row → IsAtJust (attributes_of row) id index.names
at-just rows index rising is id row there n t = ap (λ l. has_id l id) (is.pairs n t) ∙ has-where (has n t) rows rising id ∙ ap (passes_at (has n t)) there

pub fresh : (rows : Rows) (index : Index) → IsRising rows → IsIndexed rows index → (id : ℕ) → row_at id rows ≡ None → IsAtJust [] id index.names
fresh rows index rising is id none n t = ap (λ l. has_id l id) (is.pairs n t) ∙ has-where (has n t) rows rising id ∙ ap (passes_at (has n t)) none

-- ---- a row that is added

same-number : (n : ℕ) → (n == n) ≡ true
same-number n = grind (arith, nat_tests)

lower-number : (k n : ℕ) → k < n → (k == n) ≡ false
lower-number k n lt = grind (arith, nat_tests)

pub where-put : (p : Row → Bool) (rows new : Rows) (n : ℕ) (row : Row) → IsRising rows → IsRising new → row_at n rows ≡ None → ((x : ℕ) → row_at x new ≡ cond (x == n) (Some row) (row_at x rows)) → ids_where p new ≡ cond (p row) (with_id n (ids_where p rows)) (ids_where p rows)
where-put p rows new n row rising now none at =
    let step : (b : Bool) → p row ≡ b → ids_where p new ≡ cond b (with_id n (ids_where p rows)) (ids_where p rows) =
    elim [
      | true ↦ λ passes. rises-same _ _ (where-rises p _ now) (with-rises n (ids_where p rows) (where-rises p rows rising))
          (λ x. has-where p _ now x ∙ ap (passes_at p) (at x)
          ∙ ⊎_elim (λ is. ap (λ b. passes_at p (cond b (Some row) (row_at x rows))) is ∙ passes ∙ sym ((has-with n (ids_where p rows) x ∙ ap (λ b. b || has_id (ids_where p rows) x) is)))
          (λ off. rw off (sym (has-with n (ids_where p rows) x ∙ ap (λ b. b || has_id (ids_where p rows) x) off ∙ has-where p rows rising x))) (cases_Bool (x == n)))
      | false ↦ λ fails. rises-same _ _ (where-rises p _ now) (where-rises p rows rising)
          (λ x. has-where p _ now x ∙ ap (passes_at p) (at x)
          ∙ ⊎_elim (λ is. ap (λ b. passes_at p (cond b (Some row) (row_at x rows))) is ∙ fails ∙ sym (has-where p rows rising x ∙ ap (passes_at p) (subst (λ m. row_at m rows ≡ None) (sym (eqb-true x n is)) none)))
          (λ off. rw off (sym (has-where p rows rising x))) (cases_Bool (x == n)))
    ] in
    step (p row) refl

pub where-added : (p : Row → Bool) (rows : Rows) (n : ℕ) (row : Row) → IsRising rows → AllBelow n (keys_of rows) → ids_where p (rows ++ (n, row) ∷ []) ≡ cond (p row) (with_id n (ids_where p rows)) (ids_where p rows)
where-added p rows n row rising below = where-put p rows (rows ++ (n, row) ∷ []) n row rising (rising-added rows n row below rising) (at-above rows n below) (at-added rows n row below)

with-last : (n : ℕ) (ids : List ℕ) → AllBelow n ids → with_id n ids ≡ ids ++ n ∷ []
with-last n ids below = λ i. lower-below n ids below i ++ n ∷ upper-below n ids below i

pub there-added : (rows : Rows) (n : ℕ) (row : Row) → AllBelow n (keys_of rows) → row_at n (rows ++ (n, row) ∷ []) ≡ Some row
there-added rows n row below = at-added rows n row below n ∙ ap (λ b. cond b (Some row) (row_at n rows)) (same-number n)

pub without-added : (rows : Rows) (n : ℕ) (row : Row) → AllBelow n (keys_of rows) → rows_without n (rows ++ (n, row) ∷ []) ≡ rows
without-added [] n row below = rw (same-number n) refl
without-added (r ∷ more) n row below =
    let off : (r.0 == n) ≡ false = lower-number r.0 n below.0 in
    rw off (ap (λ t. r ∷ t) (without-added more n row below.1))

pub indexed-added : (rows : Rows) (index new : Index) (n : ℕ) (row : Row) → IsRising rows → IsIndexed rows index → AllBelow n (keys_of rows) → IsPut (λ name text. has_pair name text (attributes_of row)) n index.names new.names
    → new.all ≡ with_id n index.all → IsIndexed (rows ++ (n, row) ∷ []) new
indexed-added rows index new n row rising is below put all = record {
  pairs = λ name text. put name text ∙ ap (λ l. cond (has name text row) (with_id n l) l) (is.pairs name text) ∙ sym (where-added (has name text) rows n row rising below);
  all = all ∙ ap (with_id n) is.all ∙ with-last n (keys_of rows) below ∙ sym (keys-added rows n row);
}

where-all : (rows : Rows) → ids_where (λ row. true) rows ≡ keys_of rows
where-all [] = refl
where-all (row ∷ more) = ap (λ t. row.0 ∷ t) (where-all more)

-- ---- a row that is taken out

and-false : (b : Bool) → (b && false) ≡ false
and-false true = refl
and-false false = refl

and-true : (b : Bool) → (b && true) ≡ b
and-true true = refl
and-true false = refl

pub where-without : (p : Row → Bool) (rows : Rows) (id : ℕ) → IsRising rows → ids_where p (rows_without id rows) ≡ without_id id (ids_where p rows)
where-without p rows id rising =
    let now = rising-without id rows rising in
    rises-same _ _ (where-rises p _ now) (without-rises id (ids_where p rows) (where-rises p rows rising))
    (λ x. has-where p _ now x ∙ ap (passes_at p) (at-without id rows x)
    ∙ ⊎_elim (λ is. rw is (sym (has-without id (ids_where p rows) x ∙ ap (λ b. has_id (ids_where p rows) x && not b) is ∙ and-false (has_id (ids_where p rows) x))))
    (λ off. rw off (sym (has-without id (ids_where p rows) x ∙ ap (λ b. has_id (ids_where p rows) x && not b) off ∙ and-true (has_id (ids_where p rows) x) ∙ has-where p rows rising x))) (cases_Bool (x == id)))

-- if the row doesn't pass, its id isn't among them
lacks-none : (p : Row → Bool) (rows : Rows) (id : ℕ) (row : Row) → IsRising rows → row_at id rows ≡ Some row → cond (p row) (without_id id (ids_where p rows)) (ids_where p rows) ≡ without_id id (ids_where p rows)
lacks-none p rows id row rising there =
    ⊎_elim
    (λ passes. rw passes refl)
    (λ fails. rw fails (sym (without-lacking id (ids_where p rows) (has-where p rows rising id ∙ ap (passes_at p) there ∙ fails))))
    (cases_Bool (p row))

pub indexed-without : (rows : Rows) (index new : Index) (id : ℕ) (row : Row) → IsRising rows → IsIndexed rows index → row_at id rows ≡ Some row → IsTaken (λ name text. has_pair name text (attributes_of row)) id index.names new.names
    → new.all ≡ without_id id index.all → IsIndexed (rows_without id rows) new
indexed-without rows index new id row rising is there taken all = record {
  pairs = λ name text. taken name text ∙ ap (λ l. cond (has name text row) (without_id id l) l) (is.pairs name text) ∙ lacks-none (has name text) rows id row rising there ∙ sym (where-without (has name text) rows id rising);
  all = all ∙ ap (without_id id) is.all ∙ sym (keys-without id rows);
}

-- ---- a row that is changed

pub where-touched : (p : Row → Bool) (f : Row → Row) → ((row : Row) → p (f row) ≡ p row) → (id : ℕ) (rows : Rows) → ids_where p (rows_changed id f rows) ≡ ids_where p rows
where-touched p f same id [] = refl
where-touched p f same id (row ∷ more) =
    let rest = where-touched p f same id more in
    let step : (a b : Bool) → (row.0 == id) ≡ a → p row.1 ≡ b → ids_where p (rows_changed id f (row ∷ more)) ≡ ids_where p (row ∷ more) =
    elim [
      | true ↦ elim [
        | true ↦ λ is passes. rw (is, same row.1, passes) (ap (λ t. row.0 ∷ t) rest)
        | false ↦ λ is fails. rw (is, same row.1, fails) rest
      ]
      | false ↦ elim [
        | true ↦ λ off passes. rw (off, passes) (ap (λ t. row.0 ∷ t) rest)
        | false ↦ λ off fails. rw (off, fails) rest
      ]
    ] in
    step (row.0 == id) (p row.1) refl refl

-- a change that doesn't touch the attributes keeps the index right
pub indexed-touched : (rows : Rows) (index : Index) (id : ℕ) (f : Row → Row) → ((row : Row) → attributes_of (f row) ≡ attributes_of row) → IsIndexed rows index → IsIndexed (rows_changed id f rows) index
indexed-touched rows index id f same is = record {
  pairs = λ name text. is.pairs name text ∙ sym (where-touched (has name text) f (λ row. ap (has_pair name text) (same row)) id rows);
  all = is.all ∙ sym (keys-changed id f rows);
}

pub where-changed : (p : Row → Bool) (f : Row → Row) (rows : Rows) (id : ℕ) (row : Row) → IsRising rows → row_at id rows ≡ Some row → ids_where p (rows_changed id f rows) ≡ cond (p (f row)) (with_id id (ids_where p rows)) (without_id id (ids_where p rows))
where-changed p f rows id row rising there =
    let now = rising-changed id f rows rising in
    let at : (x : ℕ) → (x == id) ≡ true → row_at x rows ≡ Some row = λ x is. subst (λ m. row_at m rows ≡ Some row) (sym (eqb-true x id is)) there in
    let step : (b : Bool) → p (f row) ≡ b → ids_where p (rows_changed id f rows) ≡ cond b (with_id id (ids_where p rows)) (without_id id (ids_where p rows)) =
    elim [
      | true ↦ λ passes. rises-same _ _ (where-rises p _ now) (with-rises id (ids_where p rows) (where-rises p rows rising))
          (λ x. has-where p _ now x ∙ ap (passes_at p) (at-changed id f rows x)
          ∙ ⊎_elim (λ is. ap (λ b. passes_at p (cond b (option_map f (row_at x rows)) (row_at x rows))) is ∙ ap (λ o. passes_at p (option_map f o)) (at x is) ∙ passes ∙ sym ((has-with id (ids_where p rows) x ∙ ap (λ b. b || has_id (ids_where p rows) x) is)))
          (λ off. rw off (sym (has-with id (ids_where p rows) x ∙ ap (λ b. b || has_id (ids_where p rows) x) off ∙ has-where p rows rising x))) (cases_Bool (x == id)))
      | false ↦ λ fails. rises-same _ _ (where-rises p _ now) (without-rises id (ids_where p rows) (where-rises p rows rising))
          (λ x. has-where p _ now x ∙ ap (passes_at p) (at-changed id f rows x)
          ∙ ⊎_elim (λ is. ap (λ b. passes_at p (cond b (option_map f (row_at x rows)) (row_at x rows))) is ∙ ap (λ o. passes_at p (option_map f o)) (at x is) ∙ fails ∙ sym ((has-without id (ids_where p rows) x ∙ ap (λ b. has_id (ids_where p rows) x && not b) is ∙ and-false (has_id (ids_where p rows) x))))
          (λ off. rw off (sym (has-without id (ids_where p rows) x ∙ ap (λ b. has_id (ids_where p rows) x && not b) off ∙ and-true (has_id (ids_where p rows) x) ∙ has-where p rows rising x))) (cases_Bool (x == id)))
    ] in
    step (p (f row)) refl

with-present : (id : ℕ) (ids : List ℕ) → Rises ids → has_id ids id ≡ true → ids ≡ with_id id ids
with-present id ids rises there = rises-same ids (with_id id ids) rises (with-rises id ids rises)
    (λ x. sym (has-with id ids x ∙ ⊎_elim (λ is. rw is (sym (subst (λ m. has_id ids m ≡ true) (sym (eqb-true x id is)) there))) (λ off. rw off refl) (cases_Bool (x == id))))

moved-is : (id : ℕ) (ids : List ℕ) (had now : Bool) → Rises ids → has_id ids id ≡ had → cond (now && not had) (with_id id ids) (cond (had && not now) (without_id id ids) ids) ≡ cond now (with_id id ids) (without_id id ids)
moved-is id ids true true rises has_it = with-present id ids rises has_it
moved-is id ids true false rises has_it = refl
moved-is id ids false true rises has_it = refl
moved-is id ids false false rises has_it = sym (without-lacking id ids has_it)

pub indexed-changed : (rows : Rows) (index new : Index) (id : ℕ) (row : Row) (f : Row → Row) (after : List (List ℕ × AttrValue)) → IsRising rows → IsIndexed rows index → row_at id rows ≡ Some row → attributes_of (f row) ≡ after
    → IsMoved (attributes_of row) after id index.names new.names → new.all ≡ index.all → IsIndexed (rows_changed id f rows) new
indexed-changed rows index new id row f after rising is there set moved all = record {
  pairs = λ name text.
      let old = ids_where (has name text) rows in
      let had : has_id old id ≡ has name text row = has-where (has name text) rows rising id ∙ ap (passes_at (has name text)) there in
      moved name text ∙ ap (λ l. cond (is_own after (attributes_of row) name text) (with_id id l) (cond (is_own (attributes_of row) after name text) (without_id id l) l)) (is.pairs name text)
      ∙ moved-is id old (has name text row) (has_pair name text after) (where-rises (has name text) rows rising) had
      ∙ ap (λ given. cond (has_pair name text given) (with_id id old) (without_id id old)) (sym set)
      ∙ sym (where-changed (has name text) f rows id row rising there);
  all = all ∙ is.all ∙ sym (keys-changed id f rows);
}

-- the index is as before
pub indexed-same : (rows : Rows) (index new : Index) → IsIndexed rows index → IsSame index.names new.names → new.all ≡ index.all → IsIndexed rows new
indexed-same rows index new is same all = record { pairs = λ name text. same name text ∙ is.pairs name text; all = all ∙ is.all }

-- ---- a search

all-lists : (rows : Rows) (index : Index) → IsRising rows → IsIndexed rows index → (wanted : List (List ℕ × AttrValue)) (x : ℕ) → in_each index wanted x ≡ list_all (λ pair. passes_at (has pair.0 (text_of pair.1)) (row_at x rows)) wanted
all-lists rows index rising is [] x = refl
all-lists rows index rising is (pair ∷ more) x =
    let here : has_id (ids_at index pair.0 (text_of pair.1)) x ≡ passes_at (has pair.0 (text_of pair.1)) (row_at x rows) = ap (λ l. has_id l x) (is.pairs pair.0 (text_of pair.1)) ∙ has-where (has pair.0 (text_of pair.1)) rows rising x in
    let rest = all-lists rows index rising is more x in
    λ i. here i && rest i

each-pair : (pair : List ℕ × AttrValue) (more : List (List ℕ × AttrValue)) (o : Option Row) → list_all (λ w. passes_at (has w.0 (text_of w.1)) o) (pair ∷ more) ≡ passes_at (λ row. matches (pair ∷ more) (attributes_of row)) o
each-pair pair more None = refl
each-pair pair more (Some row) = refl

pub found-rows : (rows : Rows) (index : Index) → IsRising rows → IsIndexed rows index → (wanted : List (List ℕ × AttrValue)) (found : List ℕ) → IsFound index wanted found → found ≡ ids_where (λ row. matches wanted (attributes_of row)) rows
found-rows rows index rising is [] found h = h ∙ is.all ∙ sym (where-all rows)
found-rows rows index rising is (pair ∷ more) found h =
    let p : Row → Bool = λ row. matches (pair ∷ more) (attributes_of row) in
    rises-same found (ids_where p rows) h.0 (where-rises p rows rising)
    (λ x. h.1 x ∙ all-lists rows index rising is (pair ∷ more) x ∙ each-pair pair more (row_at x rows) ∙ sym (has-where p rows rising x))

-- ---- what the type keeps, after each change

pub kept-touched : (rows new : Rows) (index : Index) (id : ℕ) (f : Row → Row) → ((row : Row) → attributes_of (f row) ≡ attributes_of row) → new ≡ rows_changed id f rows → IsKept rows index → IsKept new index
kept-touched rows new index id f same is kept =
    subst (λ rs. IsKept rs index) (sym is) (record { rising = rising-changed id f rows kept.rising; indexed = indexed-touched rows index id f same kept.indexed })

pub kept-added : (rows new : Rows) (index after : Index) (n : ℕ) (row : Row) → IsKept rows index → AllBelow n (keys_of rows) → new ≡ rows ++ (n, row) ∷ [] → IfSome (row_at n new) (λ r. IsPut (λ name text. has_pair name text (attributes_of r)) n index.names after.names)
    → after.all ≡ with_id n index.all → IsKept new after
kept-added rows new index after n row kept below is put all =
    let at : row_at n new ≡ Some row = ap (row_at n) is ∙ there-added rows n row below in
    let here : IsPut (λ name text. has_pair name text (attributes_of row)) n index.names after.names = subst (λ o. IfSome o (λ r. IsPut (λ name text. has_pair name text (attributes_of r)) n index.names after.names)) at put in
    subst (λ rs. IsKept rs after) (sym is) (record { rising = rising-added rows n row below kept.rising; indexed = indexed-added rows index after n row kept.rising kept.indexed below here all })

-- ---- an index that is made at once

any-map : {X Y : Type 0} (p : Y → Bool) (f : X → Y) (xs : List X) → list_any p (map f xs) ≡ list_any (λ x. p (f x)) xs
any-map p f [] = refl
any-map p f (x ∷ xs) = ap (λ b. p (f x) || b) (any-map p f xs)

abbrev given-has : (n t : List ℕ) (x : ℕ) → ℕ × List (List ℕ × AttrValue) → Bool
given-has n t x given = (given.0 == x) && has_pair n t given.1

where-given : (n t : List ℕ) (x : ℕ) (rows : Rows) → list_any (given-has n t x) (map given_row rows) ≡ has_id (ids_where (has n t) rows) x
where-given n t x [] = refl
where-given n t x (row ∷ more) =
    let rest = where-given n t x more in
    ⊎_elim
    (λ is. rw is (ap (λ b. (row.0 == x) && true || b) rest ∙ ap (λ b. b || has_id (ids_where (has n t) more) x) (and-true (row.0 == x))))
    (λ off. rw off (ap (λ b. (row.0 == x) && false || b) rest ∙ ap (λ b. b || has_id (ids_where (has n t) more) x) (and-false (row.0 == x))))
    (cases_Bool (has n t row.1))

pub kept-made : (rows : Rows) (items : Items) (index : Index) → IsRising rows → AreOf rows items → IsIndexOf items index → IsKept rows index
kept-made rows items index rising are is =
    record {
      rising = rising;
      indexed = record {
        pairs = λ n t. rises-same _ _ (is.rise n t).rising (where-rises (has n t) rows rising) (λ x. is.each n t x ∙ sym (any-map (given-has n t x) given_of items) ∙ ap (list_any (given-has n t x)) are ∙ where-given n t x rows);
        all = rises-same _ _ is.all_rise.rising rising (λ x. is.all x ∙ sym (any-map (λ g. g.0 == x) given_of items) ∙ ap (list_any (λ g. g.0 == x)) are ∙ any-map (λ g. g.0 == x) given_row rows ∙ sym (any-map (λ y. y == x) (λ row. row.0) rows));
      };
    }

pub kept-same : (rows new : Rows) (index after : Index) → IsKept rows index → new ≡ rows → IsSame index.names after.names → after.all ≡ index.all → IsKept new after
kept-same rows new index after kept is same all = subst (λ rs. IsKept rs after) (sym is) (record { rising = kept.rising; indexed = indexed-same rows index after kept.indexed same all })

pub kept-without : (rows new : Rows) (index after : Index) (id : ℕ) (row : Row) → IsKept rows index → row_at id rows ≡ Some row → new ≡ rows_without id rows → IsTaken (λ name text. has_pair name text (attributes_of row)) id index.names after.names
    → after.all ≡ without_id id index.all → IsKept new after
kept-without rows new index after id row kept there is taken all =
    subst (λ rs. IsKept rs after) (sym is) (record { rising = rising-without id rows kept.rising; indexed = indexed-without rows index after id row kept.rising kept.indexed there taken all })

pub kept-moved : (rows new : Rows) (index after : Index) (id : ℕ) (f : Row → Row) (given : List (List ℕ × AttrValue)) → IsKept rows index → is_some (row_at id rows) ≡ true → ((row : Row) → attributes_of (f row) ≡ given) → new ≡ rows_changed id f rows
    → IfSome (row_at id rows) (λ row. IsMoved (attributes_of row) given id index.names after.names) → after.all ≡ index.all → IsKept new after
kept-moved rows new index after id f given kept there set is moved all =
    let step : (o : Option Row) → row_at id rows ≡ o → is_some o ≡ true → IfSome o (λ row. IsMoved (attributes_of row) given id index.names after.names) → IsIndexed (rows_changed id f rows) after =
    elim [
      | None ↦ λ at yes moves. absurd cc
      | Some row ↦ λ at yes moves. indexed-changed rows index after id row f given kept.rising kept.indexed at (set row) moves all
    ] in
    subst (λ rs. IsKept rs after) (sym is) (record { rising = rising-changed id f rows kept.rising; indexed = step (row_at id rows) refl there moved })

-- ---- the item that has just the given attributes

parts : (a b : Bool) → (a && b) ≡ true → (a ≡ true) × (b ≡ true)
parts true true e = (refl, refl)
parts true false e = absurd cc
parts false b e = absurd cc

-- attributes that are equal to given ones have the first of these
has-first : (pair : List ℕ × AttrValue) (more attributes : List (List ℕ × AttrValue)) → is_equal (pair ∷ more) attributes ≡ true → has_pair pair.0 (text_of pair.1) attributes ≡ true
has-first pair more [] is = absurd cc
has-first pair more (found ∷ rest) is =
    let here : (is_name pair.0 found.0 && is_name (text_of pair.1) (text_of found.1)) ≡ true = (parts (is_name pair.0 found.0 && is_name (text_of pair.1) (text_of found.1)) (is_equal more rest) is).0 in
    ap (λ b. b || has_pair pair.0 (text_of pair.1) rest) here

-- the ids that pass one test are among those that pass a wider one
narrowed : (p q : Row → Bool) → ((row : Row) → p row ≡ true → q row ≡ true) → (rows : Rows) → IsRising rows → ids_where p rows ≡ filter (λ id. passes_at p (row_at id rows)) (ids_where q rows)
narrowed p q wider rows rising =
    let test : ℕ → Bool = λ id. passes_at p (row_at id rows) in
    let both : (o : Option Row) → passes_at p o ≡ (passes_at q o && passes_at p o) =
    elim [
      | None ↦ refl
      | Some row ↦ ⊎_elim (λ is. rw (is, wider row is) refl) (λ off. rw off (sym (and-false (q row)))) (cases_Bool (p row))
    ] in
    rises-same (ids_where p rows) (filter test (ids_where q rows)) (where-rises p rows rising) (IsStrictlySortedBy-filter nat_cmp test (ids_where q rows) (where-rises q rows rising))
    (λ x. has-where p rows rising x ∙ both (row_at x rows) ∙ ap (λ b. b && passes_at p (row_at x rows)) (sym (has-where q rows rising x)) ∙ sym (has-filter test (ids_where q rows) x))

pub equal-rows : (rows : Rows) (index : Index) → IsKept rows index → (given : List (List ℕ × AttrValue)) → ids_where (has_just given) rows ≡ filter (λ id. passes_at (has_just given) (row_at id rows)) (candidates given index)
equal-rows rows index kept [] =
    let wide = narrowed (has_just []) (λ row. true) (λ row is. refl) rows kept.rising in
    wide ∙ ap (filter (λ id. passes_at (has_just []) (row_at id rows))) (where-all rows ∙ sym kept.indexed.all)
equal-rows rows index kept (pair ∷ more) =
    let given : List (List ℕ × AttrValue) = pair ∷ more in
    let wide = narrowed (has_just given) (has pair.0 (text_of pair.1)) (λ row is. has-first pair more (attributes_of row) is) rows kept.rising in
    wide ∙ ap (filter (λ id. passes_at (has_just given) (row_at id rows))) (sym (kept.indexed.pairs pair.0 (text_of pair.1)))

pub first-found : (test : ℕ → Bool) (ids : List ℕ) (place id : ℕ) → place < length ids → id ≡ get_or ids place 0 → filter test (take place ids) ≡ [] → test id ≡ true → Some id ≡ first_id (filter test ids)
first-found test ids place id lt is none passes =
    let split : ids ≡ take place ids ++ id ∷ drop (place + 1) ids = sym (take-append-drop place ids) ∙ ap (λ t. take place ids ++ t) (drop_more ids place 0 lt ∙ ap (λ x. x ∷ drop (place + 1) ids) (sym is)) in
    let parted = ap (filter test) split ∙ filter-append test (take place ids) (id ∷ drop (place + 1) ids) ∙ ap (λ t. t ++ filter test (id ∷ drop (place + 1) ids)) none in
    let here : filter test (id ∷ drop (place + 1) ids) ≡ id ∷ filter test (drop (place + 1) ids) = rw passes refl in
    sym (ap first_id (parted ∙ here))

pub none-more : (test : ℕ → Bool) (ids : List ℕ) (place id : ℕ) → place < length ids → id ≡ get_or ids place 0 → filter test (take place ids) ≡ [] → test id ≡ false → filter test (take (place + 1) ids) ≡ []
none-more test ids place id lt is none fails =
    filter_more test ids place 0 lt ∙ ap (λ t. t ++ cond (test (get_or ids place 0)) (get_or ids place 0 ∷ []) []) none ∙ ap (λ b. cond b (get_or ids place 0 ∷ []) []) (ap test (sym is) ∙ fails)

pub none-left : (test : ℕ → Bool) (ids : List ℕ) (place : ℕ) → length ids ≤ place → filter test (take place ids) ≡ [] → None ≡ first_id (filter test ids)
none-left test ids place le none = sym (ap (λ l. first_id (filter test l)) (sym (take_all place ids le)) ∙ ap first_id none)

-- ---- how many ids the wanted pairs have

lists-are : (rows : Rows) (index : Index) → IsIndexed rows index → (wanted : List (List ℕ × AttrValue)) → wanted_lists index wanted ≡ pair_lists wanted rows
lists-are rows index is [] = refl
lists-are rows index is (pair ∷ more) =
    let here = is.pairs pair.0 (text_of pair.1) in
    let rest = lists-are rows index is more in
    λ i. here i ∷ rest i

pub few-by-rows : (rows : Rows) (index : Index) → IsIndexed rows index → (wanted : List (List ℕ × AttrValue)) (old new : ℕ) → ((pair : ℕ) → pair < length wanted → new ≤ old + length (get_or (wanted_lists index wanted) pair []) * length wanted)
    → (pair : ℕ) → pair < length wanted → new ≤ old + length (get_or (pair_lists wanted rows) pair []) * length wanted
few-by-rows rows index is wanted old new few pair lt = subst (λ lists. new ≤ old + length (get_or lists pair []) * length wanted) (lists-are rows index is wanted) (few pair lt)

pub few-of-rows : (rows : Rows) (index : Index) → IsIndexed rows index → (old new : ℕ) → new ≤ old + length index.all → new ≤ old + length rows
few-of-rows rows index is old new few = omega (arith, few, ap length is.all, length-keys_of rows)
