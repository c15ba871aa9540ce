-- The items of a clear part and the rows of the full items, with the same ids in the same order.
use Rattle.std.proofs.Common.{◌≡◌, ℕ, ◌+◌, ◌<◌, Bool, true, false, cond, nat_eq, nat_lt, List, [], ◌∷◌, ◌++◌, length, map, filter, Option, Some, None, Result, Ok, Err, refl, sym, ap, subst, ◌∙◌, arith}
use Rattle.std.specs.List.{AllByRecursion, zip}
use Rattle.std.specs.List.Sorted.{IsStrictlyIncreasing, IsStrictlySortedBy}
use Rattle.std.specs.Map.{keys_of}
use Rattle.std.specs.Option.{is_some, option_map}
use Rattle.std.proofs.lemmas.Bool.Decides.{nat_tests}
use Rattle.kr_base.proofs.IdLemmas.{AllAbove, AllBelow, above-head}
use Rattle.std.proofs.lemmas.Map.Keys.{IsStrictlyIncreasing-from_sorted, sorted_from_strictly_increasing, sorted_tail}
use Rattle.attribute_hash.specs.Hash.{hashes}
use Rattle.keyring_file.specs.Clear.{ClearPart}
use Rattle.std.specs.Ordering.{nat_cmp}
use Rattle.keyring_file.specs.declared.area.FullItem.{FullItem}
use Rattle.keyring_file.specs.declared.clear.ClearItem.{ClearItem}
use Rattle.keyring_seal.specs.Arranged.{Row, row_number}
use Rattle.item_store.specs.Rows.{IsRising as AreRising, Row as StoreRow, Rows, greatest_id, has_just, ids_where, last_id, most_attributes, next_id, row_at, rows_changed as items_changed, rows_without as items_without}
use Rattle.item_store.specs.declared.fault.ItemFault.{ItemFault}
use Rattle.item_store.specs.declared.fault.ItemFault.TheVariants as item_fault
use Rattle.item_store.proofs.RowLemmas.{keys-added, keys-changed, next-last, rising-added, rising-without}
use Rattle.item_store.proofs.IndexLemmas.{without-added}
use Rattle.kr_base.specs.declared.attributes.AttrValue.{AttrValue}
use Rattle.collection_store.specs.Changes.{at_item, has_row, rows_changed, rows_without, store_rows, within_most}
use Rattle.collection_store.specs.Copying.{is_other}
use Rattle.collection_store.specs.Preparing.{AreHashed, IsInStep, looked, with_item}
use Rattle.collection_store.specs.State.{ids_of, rows_with}
use Rattle.collection_store.specs.declared.change.Changed.{Changed}

abbrev pub made_of : List Row → Changed → Result (List Row × Changed) ItemFault
made_of rows answer = Ok (rows, answer)

abbrev item_of : ℕ × StoreRow → FullItem
item_of row = row.1.item

higher : (a b : ℕ) → b < a → nat_eq a b ≡ false
higher a b lt = grind (arith, nat_tests)

itself : (a : ℕ) → nat_eq a a ≡ true
itself a = grind (arith, nat_tests)

swapped : (a b : ℕ) → nat_eq a b ≡ nat_eq b a
swapped a b = grind (arith, nat_tests)

-- ---- each item of the clear part has a row

looked_more : (n : ℕ) (row : StoreRow) (cs : List ClearItem) (es : Rows) → AllAbove n (ids_of cs) → looked cs ((n, row) ∷ es) ≡ looked cs es
looked_more n row [] es above = refl
looked_more n row (c ∷ cs) es above =
    let off : nat_eq c.id.0 n ≡ false = higher c.id.0 n above.0 in
    rw off (ap (λ t. with_item c (option_map (λ (row : StoreRow). row.item) (row_at c.id.0 es)) ++ t) (looked_more n row cs es above.1))

-- looking up each id gives the same rows as joining the two lists
pub looked_zip : (cs : List ClearItem) (es : Rows) → AreRising es → ids_of cs ≡ keys_of es → looked cs es ≡ zip cs (map (λ row. row.1.item) es)
looked_zip [] es rising same = refl
looked_zip (c ∷ cs) [] rising same = absurd cc
looked_zip (c ∷ cs) (e ∷ es) rising same =
    let first : c.id.0 ≡ e.0 = cc in
    let rest : ids_of cs ≡ keys_of es = cc in
    let above : AllAbove e.0 (ids_of cs) = subst (λ t. AllAbove e.0 t) (sym rest) (above-head e.0 (keys_of es) rising) in
    let here : nat_eq c.id.0 e.0 ≡ true = rw first (itself e.0) in
    rw here (ap (λ (t : List Row). (c, e.1.item) ∷ t) (looked_more e.0 e.1 cs es above ∙ looked_zip cs es (sorted_tail nat_cmp e.0 (keys_of es) rising) rest))

-- the joined rows have the items of the clear part
pub firsts_zip : (cs : List ClearItem) (es : Rows) → ids_of cs ≡ keys_of es → map (λ (row : Row). row.0) (zip cs (map (λ row. row.1.item) es)) ≡ cs
firsts_zip [] es same = refl
firsts_zip (c ∷ cs) [] same = absurd cc
firsts_zip (c ∷ cs) (e ∷ es) same = let rest : ids_of cs ≡ keys_of es = cc in ap (λ (t : List ClearItem). c ∷ t) (firsts_zip cs es rest)

-- ---- one item is changed

module _ (id : ℕ) (f : ClearItem → ClearItem) (g : StoreRow → StoreRow) (h : Row → Row) (agree : (c : ClearItem) (r : StoreRow) → (f c, (g r).item) ≡ h (c, r.item)) where
  abbrev edit : ClearItem → ClearItem
  edit c = cond (nat_eq c.id.0 id) (f c) c

  abbrev joined_at : Bool → ClearItem → ℕ × StoreRow → Row
  joined_at b c e = (edit c, item_of (cond b (e.0, g e.1) e))

  edited_head : (b : Bool) (c : ClearItem) (n : ℕ) (r : StoreRow) → ◌≡◌ {A = Row} (cond b (f c) c, item_of (cond b (n, g r) (n, r))) (cond b (h (c, r.item)) (c, r.item))
  edited_head true c n r = agree c r
  edited_head false c n r = refl

  pub edited_rows : (cs : List ClearItem) (es : Rows) → ids_of cs ≡ keys_of es → zip (map (λ c. cond (nat_eq c.id.0 id) (f c) c) cs) (map (λ row. row.1.item) (items_changed id g es)) ≡ rows_changed id h (zip cs (map (λ row. row.1.item) es))
  edited_rows [] es same = refl
  edited_rows (c ∷ cs) [] same = absurd cc
  edited_rows (c ∷ cs) (e ∷ es) same =
      let first : e.0 ≡ c.id.0 = cc in
      let rest : ids_of cs ≡ keys_of es = cc in
      let tests : nat_eq e.0 id ≡ nat_eq c.id.0 id = ap (λ n. nat_eq n id) first in
      let head : ◌≡◌ {A = Row} (edit c, item_of (cond (nat_eq e.0 id) (e.0, g e.1) e)) (cond (nat_eq c.id.0 id) (h (c, e.1.item)) (c, e.1.item)) =
      ap (λ b. joined_at b c e) tests ∙ edited_head (nat_eq c.id.0 id) c e.0 e.1 in
      let tail = edited_rows cs es rest in
      λ i. head i ∷ tail i

-- its id stays
pub edited_ids : (id : ℕ) (f : ClearItem → ClearItem) → ((c : ClearItem) → (f c).id.0 ≡ c.id.0) → (cs : List ClearItem) → ids_of (map (λ c. cond (nat_eq c.id.0 id) (f c) c) cs) ≡ ids_of cs
edited_ids id f stays [] = refl
edited_ids id f stays (c ∷ cs) =
    let head : (b : Bool) → (cond b (f c) c).id.0 ≡ c.id.0 =
    elim [
      | true ↦ stays c
      | false ↦ refl
    ] in
    let first = head (nat_eq c.id.0 id) in
    let tail = edited_ids id f stays cs in
    λ i. first i ∷ tail i

-- a list without the item isn't changed
pub edited_none : (id : ℕ) (cs : List ClearItem) → map (λ (c : ClearItem). cond (nat_eq c.id.0 id) c c) cs ≡ cs
edited_none id [] = refl
edited_none id (c ∷ cs) =
    let head : (b : Bool) → cond b c c ≡ c =
    elim [
      | true ↦ refl
      | false ↦ refl
    ] in
    let first = head (nat_eq c.id.0 id) in
    let tail = edited_none id cs in
    λ i. first i ∷ tail i

-- whether there is an item
pub has_row_at : (id : ℕ) (cs : List ClearItem) (es : Rows) → ids_of cs ≡ keys_of es → has_row id (zip cs (map (λ row. row.1.item) es)) ≡ is_some (row_at id es)
has_row_at id [] [] same = refl
has_row_at id [] (e ∷ es) same = absurd cc
has_row_at id (c ∷ cs) [] same = absurd cc
has_row_at id (c ∷ cs) (e ∷ es) same =
    let first : c.id.0 ≡ e.0 = cc in
    let rest : ids_of cs ≡ keys_of es = cc in
    let turned : nat_eq c.id.0 id ≡ nat_eq id e.0 = ap (λ n. nat_eq n id) first ∙ swapped e.0 id in
    let step : (b : Bool) → nat_eq id e.0 ≡ b → has_row id (zip (c ∷ cs) (map (λ row. row.1.item) (e ∷ es))) ≡ is_some (row_at id (e ∷ es)) =
    elim [
      | true ↦ λ is. let one = turned ∙ is in rw (one, is) refl
      | false ↦ λ off. let one = turned ∙ off in rw (one, off) (has_row_at id cs es rest)
    ] in
    step (nat_eq id e.0) refl

-- ---- a clear part and items with the same ids

rows_rise : (ids : List ℕ) (es : Rows) → IsStrictlyIncreasing ids → ids ≡ keys_of es → AreRising es
rows_rise ids es rising same = subst (λ t. IsStrictlySortedBy nat_cmp t) same (sorted_from_strictly_increasing ids rising)

rows_increase : (es : Rows) → AreRising es → IsStrictlyIncreasing (keys_of es)
rows_increase es rising = IsStrictlyIncreasing-from_sorted (keys_of es) rising

-- looking up each id gives the joined rows, which have each item of the clear part
pub looked_in : (cs : List ClearItem) (es : Rows) → IsStrictlyIncreasing (ids_of cs) → ids_of cs ≡ keys_of es → looked cs es ≡ zip cs (map (λ row. row.1.item) es)
looked_in cs es rising same = looked_zip cs es (rows_rise (ids_of cs) es rising same) same

pub there_in : (cs : List ClearItem) (es : Rows) → IsStrictlyIncreasing (ids_of cs) → ids_of cs ≡ keys_of es → map (λ (row : Row). row.0) (looked cs es) ≡ cs
there_in cs es rising same = ap (λ (t : List Row). map (λ (row : Row). row.0) t) (looked_in cs es rising same) ∙ firsts_zip cs es same

pub hashed_in : (cs : List ClearItem) (es : Rows) → IsStrictlyIncreasing (ids_of cs) → ids_of cs ≡ keys_of es → AreHashed (zip cs (map (λ row. row.1.item) es)) → AreHashed (looked cs es)
hashed_in cs es rising same hashed = subst AreHashed (sym (looked_in cs es rising same)) hashed

-- if a change keeps a fact of a row, the fact is true of all rows after it if it was before
changed_all : (P : Row → Type 0) (id : ℕ) (h : Row → Row) → ((row : Row) → P row → P (h row)) → (rows : List Row) → AllByRecursion P rows → AllByRecursion P (rows_changed id h rows)
changed_all P id h keeps [] all = tt
changed_all P id h keeps (row ∷ more) all =
    let head : (b : Bool) → P (cond b (h row) row) =
    elim [
      | true ↦ keeps row all.0
      | false ↦ all.0
    ] in
    (head (nat_eq (row_number row) id), changed_all P id h keeps more all.1)

pub keys_stay : (id : ℕ) (g : StoreRow → StoreRow) (es : Rows) → keys_of (items_changed id g es) ≡ keys_of es
keys_stay id g es = keys-changed id g es

-- ---- parts of one item are changed

module _ (id : ℕ) (f : ClearItem → ClearItem) (g : StoreRow → StoreRow) (h : Row → Row) (agree : (c : ClearItem) (r : StoreRow) → (f c, (g r).item) ≡ h (c, r.item)) (told : ClearPart) (items : Rows) (edited : List ClearItem) (step : IsInStep told items) (is : edited ≡ map (λ (c : ClearItem). cond (nat_eq c.id.0 id) (f c) c) told.items) where
  pub parts_rows : zip edited (map (λ row. row.1.item) (items_changed id g items)) ≡ rows_changed id h (rows_with told items)
  parts_rows = ap (λ (t : List ClearItem). zip t (map item_of (items_changed id g items))) is ∙ edited_rows id f g h agree told.items items step.ids

  pub parts_ids : ((c : ClearItem) → (f c).id.0 ≡ c.id.0) → ids_of edited ≡ ids_of told.items
  parts_ids stays = ap ids_of is ∙ edited_ids id f stays told.items

  pub parts_hashed : ((row : Row) → row.0.hashed ≡ hashes row.1.attributes → (h row).0.hashed ≡ hashes (h row).1.attributes) → AreHashed (zip edited (map (λ row. row.1.item) (items_changed id g items)))
  parts_hashed keeps = subst AreHashed (sym parts_rows) (changed_all (λ (row : Row). row.0.hashed ≡ hashes row.1.attributes) id h keeps (rows_with told items) step.hashed)

  -- if the item is there
  pub parts_made : (answer : Changed) → is_some (row_at id items) ≡ true → at_item {A = List Row × Changed} id (rows_with told items) (Ok (rows_changed id h (rows_with told items), answer)) ≡ Ok (zip edited (map (λ row. row.1.item) (items_changed id g items)), answer)
  parts_made answer there =
      ap (λ b. cond b (made_of (rows_changed id h (rows_with told items)) answer) (Err item_fault.NoItem)) (has_row_at id told.items items step.ids ∙ there) ∙ ap (λ (t : List Row). made_of t answer) (sym parts_rows)

-- if there is no such item
pub none_made : {A : Type 0} (id : ℕ) (told : ClearPart) (items : Rows) (made : Result A ItemFault) → IsInStep told items → is_some (row_at id items) ≡ false → at_item id (rows_with told items) made ≡ Err item_fault.NoItem
none_made id told items made step none = ap (λ b. cond b made (Err item_fault.NoItem)) (has_row_at id told.items items step.ids ∙ none)

-- ---- one item is removed

other_ids : (id : ℕ) (cs : List ClearItem) (es : Rows) → ids_of cs ≡ keys_of es → ids_of (filter (is_other id) cs) ≡ keys_of (items_without id es)
other_ids id [] [] same = refl
other_ids id [] (e ∷ es) same = absurd cc
other_ids id (c ∷ cs) [] same = absurd cc
other_ids id (c ∷ cs) (e ∷ es) same =
    let first : c.id.0 ≡ e.0 = cc in
    let rest : ids_of cs ≡ keys_of es = cc in
    let step : (b : Bool) → nat_eq c.id.0 id ≡ b → ids_of (filter (is_other id) (c ∷ cs)) ≡ keys_of (items_without id (e ∷ es)) =
    elim [
      | true ↦ λ is. let one = ap (λ n. nat_eq n id) (sym first) ∙ is in rw (is, one) (other_ids id cs es rest)
      | false ↦ λ off. let one = ap (λ n. nat_eq n id) (sym first) ∙ off in let tail = other_ids id cs es rest in rw (off, one) (λ i. first i ∷ tail i)
    ] in
    step (nat_eq c.id.0 id) refl

other_rows : (id : ℕ) (cs : List ClearItem) (es : Rows) → ids_of cs ≡ keys_of es → zip (filter (is_other id) cs) (map (λ row. row.1.item) (items_without id es)) ≡ rows_without id (zip cs (map (λ row. row.1.item) es))
other_rows id [] [] same = refl
other_rows id [] (e ∷ es) same = absurd cc
other_rows id (c ∷ cs) [] same = absurd cc
other_rows id (c ∷ cs) (e ∷ es) same =
    let first : c.id.0 ≡ e.0 = cc in
    let rest : ids_of cs ≡ keys_of es = cc in
    let step : (b : Bool) → nat_eq c.id.0 id ≡ b → zip (filter (is_other id) (c ∷ cs)) (map (λ row. row.1.item) (items_without id (e ∷ es))) ≡ rows_without id (zip (c ∷ cs) (map (λ row. row.1.item) (e ∷ es))) =
    elim [
      | true ↦ λ is. let one = ap (λ n. nat_eq n id) (sym first) ∙ is in rw (is, one) (other_rows id cs es rest)
      | false ↦ λ off. let one = ap (λ n. nat_eq n id) (sym first) ∙ off in rw (off, one) (ap (λ (t : List Row). (c, e.1.item) ∷ t) (other_rows id cs es rest))
    ] in
    step (nat_eq c.id.0 id) refl

other_looked : (id : ℕ) (cs : List ClearItem) (es : Rows) → looked (filter (is_other id) cs) es ≡ rows_without id (looked cs es)
other_looked id [] es = refl
other_looked id (c ∷ cs) es =
    let step : (b : Bool) → nat_eq c.id.0 id ≡ b → (o : Option FullItem) → option_map (λ (row : StoreRow). row.item) (row_at c.id.0 es) ≡ o → looked (filter (is_other id) (c ∷ cs)) es ≡ rows_without id (looked (c ∷ cs) es) =
    elim [
      | true ↦ λ is. elim [
        | None ↦ λ none. rw (is, none) (other_looked id cs es)
        | Some full ↦ λ some. rw (is, some, is) (other_looked id cs es)
      ]
      | false ↦ λ off. elim [
        | None ↦ λ none. rw (off, none) (other_looked id cs es)
        | Some full ↦ λ some. rw (off, some, off) (ap (λ (t : List Row). (c, full) ∷ t) (other_looked id cs es))
      ]
    ] in
    step (nat_eq c.id.0 id) refl (option_map (λ (row : StoreRow). row.item) (row_at c.id.0 es)) refl

without_all : (P : Row → Type 0) (id : ℕ) (rows : List Row) → AllByRecursion P rows → AllByRecursion P (rows_without id rows)
without_all P id [] all = tt
without_all P id (row ∷ more) all =
    let step : (b : Bool) → nat_eq (row_number row) id ≡ b → AllByRecursion P (rows_without id (row ∷ more)) =
    elim [
      | true ↦ λ is. rw is (without_all P id more all.1)
      | false ↦ λ off. rw off (all.0, without_all P id more all.1)
    ] in
    step (nat_eq (row_number row) id) refl

module _ (id : ℕ) (told : ClearPart) (items : Rows) (edited : List ClearItem) (step : IsInStep told items) (rising : IsStrictlyIncreasing (ids_of told.items)) (is : edited ≡ filter (is_other id) told.items) where
  pub left_looked : looked edited items ≡ rows_without id (rows_with told items)
  left_looked = ap (λ (t : List ClearItem). looked t items) is ∙ other_looked id told.items items ∙ ap (λ (t : List Row). rows_without id t) (looked_in told.items items rising step.ids)

  pub left_ids : ids_of edited ≡ keys_of (items_without id items)
  left_ids = ap ids_of is ∙ other_ids id told.items items step.ids

  pub left_rows : zip edited (map (λ row. row.1.item) (items_without id items)) ≡ rows_without id (rows_with told items)
  left_rows = ap (λ (t : List ClearItem). zip t (map item_of (items_without id items))) is ∙ other_rows id told.items items step.ids

  pub left_hashed : AreHashed (rows_without id (rows_with told items))
  left_hashed = without_all (λ (row : Row). row.0.hashed ≡ hashes row.1.attributes) id (rows_with told items) step.hashed

  pub left_firsts : map (λ (row : Row). row.0) (rows_without id (rows_with told items)) ≡ edited
  left_firsts = ap (λ (t : List Row). map (λ (row : Row). row.0) t) (sym left_rows) ∙ firsts_zip edited (items_without id items) left_ids

  pub left_there : map (λ (row : Row). row.0) (looked edited items) ≡ edited
  left_there = ap (λ (t : List Row). map (λ (row : Row). row.0) t) left_looked ∙ left_firsts

  pub left_rising : IsStrictlyIncreasing (ids_of edited)
  left_rising = subst (λ t. IsStrictlyIncreasing t) (sym left_ids) (rows_increase (items_without id items) (rising-without id items (rows_rise (ids_of told.items) items rising step.ids)))

  pub left_made : (answer : Changed) → is_some (row_at id items) ≡ true → at_item {A = List Row × Changed} id (rows_with told items) (Ok (rows_without id (rows_with told items), answer)) ≡ Ok (rows_without id (rows_with told items), answer)
  left_made answer there = ap (λ b. cond b (made_of (rows_without id (rows_with told items)) answer) (Err item_fault.NoItem)) (has_row_at id told.items items step.ids ∙ there)

-- ---- an item is added

zip_last : (cs : List ClearItem) (es : Rows) (y : ClearItem) (e : ℕ × StoreRow) → ids_of cs ≡ keys_of es → zip (cs ++ y ∷ []) (map (λ row. row.1.item) (es ++ e ∷ [])) ≡ zip cs (map (λ row. row.1.item) es) ++ (y, e.1.item) ∷ []
zip_last [] [] y e same = refl
zip_last [] (f ∷ es) y e same = absurd cc
zip_last (c ∷ cs) [] y e same = absurd cc
zip_last (c ∷ cs) (f ∷ es) y e same = let rest : ids_of cs ≡ keys_of es = cc in ap (λ (t : List Row). (c, f.1.item) ∷ t) (zip_last cs es y e rest)

ids_last : (cs : List ClearItem) (y : ClearItem) → ids_of (cs ++ y ∷ []) ≡ ids_of cs ++ y.id.0 ∷ []
ids_last [] y = refl
ids_last (c ∷ cs) y = ap (λ (t : List ℕ). c.id.0 ∷ t) (ids_last cs y)

hashed_last : (rows : List Row) (row : Row) → AreHashed rows → row.0.hashed ≡ hashes row.1.attributes → AreHashed (rows ++ row ∷ [])
hashed_last [] row all last = (last, tt)
hashed_last (r ∷ more) row all last = (all.0, hashed_last more row all.1 last)

module _ (id : ℕ) (told : ClearPart) (items : Rows) (y : ClearItem) (row : StoreRow) (step : IsInStep told items) (rising : IsStrictlyIncreasing (ids_of told.items)) (named : y.id.0 ≡ id) (next : Some id ≡ next_id items) (hashed : y.hashed ≡ hashes row.item.attributes) (edited : List ClearItem) (is : edited ≡ told.items ++ y ∷ []) (new : Rows) (added : new ≡ items ++ (id, row) ∷ []) where
  below : AllBelow id (keys_of items)
  below = next-last items id next (rows_rise (ids_of told.items) items rising step.ids)

  new_rising : AreRising new
  new_rising = subst (λ t. AreRising t) (sym added) (rising-added items id row below (rows_rise (ids_of told.items) items rising step.ids))

  pub added_ids : ids_of edited ≡ keys_of new
  added_ids =
      let left : ids_of (told.items ++ y ∷ []) ≡ keys_of items ++ id ∷ [] = ids_last told.items y ∙ (λ i. step.ids i ++ named i ∷ []) in
      ap ids_of is ∙ left ∙ sym (keys-added items id row) ∙ ap (λ (t : Rows). keys_of t) (sym added)

  pub added_rows : zip edited (map (λ row. row.1.item) new) ≡ rows_with told items ++ (y, row.item) ∷ []
  added_rows = (λ i. zip (is i) (map item_of (added i))) ∙ zip_last told.items items y (id, row) step.ids

  pub added_hashed : AreHashed (rows_with told items ++ (y, row.item) ∷ [])
  added_hashed = hashed_last (rows_with told items) (y, row.item) step.hashed hashed

  pub added_rising : IsStrictlyIncreasing (ids_of edited)
  added_rising = subst (λ t. IsStrictlyIncreasing t) (sym added_ids) (rows_increase new new_rising)

  pub added_undone : items_without id new ≡ items
  added_undone = ap (λ (t : Rows). items_without id t) added ∙ without-added items id row below

lt_of : {a b : ℕ} → nat_lt a b ≡ true → a < b
lt_of {a} {b} is = grind (arith, nat_tests, is)

lt_is : {a b : ℕ} → a < b → nat_lt a b ≡ true
lt_is {a} {b} lt = grind (arith, nat_tests, lt)

-- if the attributes aren't too many
pub within_made : {A : Type 0} (attributes : List (List ℕ × AttrValue)) (made : A) → (most_attributes < length attributes → ⊥) → within_most attributes made ≡ Ok made
within_made attributes made never =
    let step : (b : Bool) → nat_lt most_attributes (length attributes) ≡ b → cond b (Err item_fault.TooManyAttributes) (Ok made) ≡ Ok made =
    elim [
      | true ↦ λ is. absurd (never (lt_of is))
      | false ↦ λ off. refl
    ] in
    step (nat_lt most_attributes (length attributes)) refl

-- if they are
pub over_made : {A : Type 0} (attributes : List (List ℕ × AttrValue)) (made : A) → most_attributes < length attributes → within_most attributes made ≡ Err item_fault.TooManyAttributes
over_made attributes made more = ap (λ b. cond b (Err item_fault.TooManyAttributes) (Ok made)) (lt_is more)

-- which of the two, by the test
pub within_off : {A : Type 0} (attributes : List (List ℕ × AttrValue)) (made : A) → nat_lt most_attributes (length attributes) ≡ false → within_most attributes made ≡ Ok made
within_off attributes made off = ap (λ b. cond b (Err item_fault.TooManyAttributes) (Ok made)) off

pub over_on : {A : Type 0} (attributes : List (List ℕ × AttrValue)) (made : A) → nat_lt most_attributes (length attributes) ≡ true → within_most attributes made ≡ Err item_fault.TooManyAttributes
over_on attributes made is = ap (λ b. cond b (Err item_fault.TooManyAttributes) (Ok made)) is

-- ---- ids in the two forms of rows

last_same : (cs : List ClearItem) (es : Rows) → ids_of cs ≡ keys_of es → last_id (store_rows (zip cs (map (λ row. row.1.item) es))) ≡ last_id es
last_same [] [] same = refl
last_same [] (e ∷ es) same = absurd cc
last_same (c ∷ cs) [] same = absurd cc
last_same (c ∷ []) (e ∷ []) same = let first : c.id.0 ≡ e.0 = cc in first
last_same (c ∷ []) (e ∷ f ∷ es) same = absurd cc
last_same (c ∷ d ∷ cs) (e ∷ []) same = absurd cc
last_same (c ∷ d ∷ cs) (e ∷ f ∷ es) same = let rest : ids_of (d ∷ cs) ≡ keys_of (f ∷ es) = cc in last_same (d ∷ cs) (f ∷ es) rest

pub next_same : (cs : List ClearItem) (es : Rows) → ids_of cs ≡ keys_of es → next_id (store_rows (zip cs (map (λ row. row.1.item) es))) ≡ next_id es
next_same cs es same = ap (λ n. cond (nat_eq n greatest_id) None (Some (n + 1))) (last_same cs es same)

pub equal_same : (given : List (List ℕ × AttrValue)) (cs : List ClearItem) (es : Rows) → ids_of cs ≡ keys_of es → ids_where (has_just given) (store_rows (zip cs (map (λ row. row.1.item) es))) ≡ ids_where (has_just given) es
equal_same given [] [] same = refl
equal_same given [] (e ∷ es) same = absurd cc
equal_same given (c ∷ cs) [] same = absurd cc
equal_same given (c ∷ cs) (e ∷ es) same =
    let first : c.id.0 ≡ e.0 = cc in
    let rest : ids_of cs ≡ keys_of es = cc in
    let tail = equal_same given cs es rest in
    let step : (b : Bool) → has_just given e.1 ≡ b → ids_where (has_just given) (store_rows (zip (c ∷ cs) (map (λ row. row.1.item) (e ∷ es)))) ≡ ids_where (has_just given) (e ∷ es) =
    elim [
      | true ↦ λ is. rw is (λ i. first i ∷ tail i)
      | false ↦ λ off. rw off tail
    ] in
    step (has_just given e.1) refl

-- other attributes for an item that is there
pub within_at : {A : Type 0} (id : ℕ) (told : ClearPart) (items : Rows) (attributes : List (List ℕ × AttrValue)) (made : A) → IsInStep told items → is_some (row_at id items) ≡ true → nat_lt most_attributes (length attributes) ≡ false → at_item id (rows_with told items) (within_most attributes made) ≡ Ok made
within_at id told items attributes made step there off =
    ap (λ b. cond b (within_most attributes made) (Err item_fault.NoItem)) (has_row_at id told.items items step.ids ∙ there) ∙ within_off attributes made off

pub over_at : {A : Type 0} (id : ℕ) (told : ClearPart) (items : Rows) (attributes : List (List ℕ × AttrValue)) (made : A) → IsInStep told items → is_some (row_at id items) ≡ true → nat_lt most_attributes (length attributes) ≡ true → at_item id (rows_with told items) (within_most attributes made) ≡ Err item_fault.TooManyAttributes
over_at id told items attributes made step there is =
    ap (λ b. cond b (within_most attributes made) (Err item_fault.NoItem)) (has_row_at id told.items items step.ids ∙ there) ∙ over_on attributes made is
