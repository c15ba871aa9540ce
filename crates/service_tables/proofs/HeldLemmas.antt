-- A collection shows the items of its file, and holds just these while it is unlocked: the ids of the rows that are held rise, and a file that is
-- sealed has them in its clear part.
use Rattle.std.proofs.Common.{◌≡◌, ◌≤◌, ℕ, ◌+◌, ◌<◌, nat_eq, nat_lt, Bool, true, false, cond, IfSome, is_some, List, [], ◌∷◌, ◌++◌, filter, length, map, Option, Some, None, Result, Ok, Err, refl, sym, ap, subst, ◌∙◌, arith}
use Rattle.std.specs.List.{AllByRecursion, IsDistinct, list_any, zip}
use Rattle.std.specs.List.Sorted.{IsStrictlyIncreasing}
use Rattle.std.specs.Option.{option_and_then, option_map, option_map_or}
use Rattle.std.proofs.lemmas.Bool.Decides.{nat_tests}
use Rattle.std.proofs.lemmas.Map.Keys.{IsDistinct-from_apart, below_from_sorted, sorted_from_strictly_increasing}
use Rattle.std.proofs.lemmas.Option.{none-some}
use Rattle.kr_base.specs.Attributes.{value_at}
use Rattle.kr_base.specs.declared.attributes.AttrValue.{AttrValue}
use Rattle.kr_base.specs.declared.ids.ItemId.{ItemId}
use Rattle.kr_base.specs.declared.ids.SessionId.{SessionId}
use Rattle.keyring_file.specs.Clear.{ClearPart}
use Rattle.keyring_file.specs.Known.{IsKnownItem}
use Rattle.keyring_file.specs.declared.area.FullItem.{FullItem}
use Rattle.keyring_file.specs.declared.clear.ClearItem.{ClearItem}
use Rattle.keyring_seal.specs.Arranged.{Row, IsKnown, IsSealable, arranged, arranged_rows, hashed_row, of_rows, row_number, rows}
use Rattle.keyring_seal.specs.Order.{by_number}
use Rattle.keyring_seal.specs.Whole.{most_bytes, sealed}
use Rattle.keyring_seal.specs.declared.content.Content.{Content}
use Rattle.keyring_seal.proofs.ArrangeLemmas.{map-map}
use Rattle.keyring_seal.proofs.ArrangedLemmas.{is_arrangement, rows_again, rows_rising}
use Rattle.keyring_seal.proofs.FileLemmas.{sealed_clear}
use Rattle.keyring_seal.proofs.OrderLemmas.{map-by_number}
use Rattle.keyring_seal.proofs.RisingLemmas.{IsRising, as_they_stand, place_by_rising, rising_by_number, rising_by_place}
use Rattle.keyring_seal.proofs.RowLemmas.{length_of_map}
use Rattle.item_store.specs.Rows.{greatest_id, last_id, most_attributes, next_id}
use Rattle.item_store.specs.declared.fault.ItemFault.{ItemFault}
use Rattle.item_store.specs.declared.fault.ItemFault.TheVariants as item_fault
use Rattle.replace_slot.specs.Cell.{File, Known, Doubt, old_image}
use Rattle.collection_store.specs.Changes.{at_item, equal_id, has_row, made_added, made_new, new_row, replaced, rows_changed, rows_made, rows_without, store_rows, with_attributes, with_label, with_secret, within_most}
use Rattle.collection_store.specs.CollectionReading.{content_at, item_at, row_at}
use Rattle.collection_store.specs.State.{Held, by_id, ids_of, shown_image}
use Rattle.collection_store.specs.declared.change.Change.{Change}
use Rattle.collection_store.specs.declared.change.Change.TheVariants as change
use Rattle.collection_store.specs.declared.change.Changed.{Changed}
use Rattle.collection_store.specs.declared.change.Changed.TheVariants as changes
use Rattle.collection_table.specs.Rows.{CollectionRow, Rows, content_of, has_item, is_open, shows_item}
use Rattle.collection_table.proofs.RowLemmas.{content-any}
use Rattle.signal_fanout.specs.secret_calls.specs.declared.secret.ReturnedSecret.{ReturnedSecret}
use Rattle.service_tables.specs.Sound.{AreShown, AreSoundCollections, HoldsShown, IsSoundCollection, IsSoundItem, ShowsItems}
use Rattle.service_tables.specs.TablesReading.{secret_of}
use Rattle.service_tables.proofs.CollectionLemmas.{at-stem}
use Rattle.service_tables.proofs.EachLemmas.{each-append, each-filter, each-mapped, each-weaker}

-- ---- the ids of rows rise

-- each id is above this number
abbrev Above : ℕ → List Row → Type 0
Above low these = AllByRecursion (λ (row : Row). low < row_number row) these

-- each id is below all that come after it
abbrev pub AreUp : List Row → Type 0
AreUp [] = Unit {0}
AreUp (row ∷ these) = Above (row_number row) these × AreUp these

above-next : (low : ℕ) (row : Row) (these : List Row) → low < row_number row → IsRising row_number (row ∷ these) → Above low (row ∷ these)
above-next low row [] lt rising = (lt, tt)
above-next low row (next ∷ these) lt rising = (lt, above-next low next these (omega (arith, lt, rising.0)) rising.1)

pub up-rising : (these : List Row) → IsRising row_number these → AreUp these
up-rising [] rising = tt
up-rising (row ∷ []) rising = (tt, tt)
up-rising (row ∷ next ∷ these) rising = (above-next (row_number row) next these rising.0 rising.1, up-rising (next ∷ these) rising.1)

rising-up : (these : List Row) → AreUp these → IsRising row_number these
rising-up [] up = tt
rising-up (row ∷ []) up = tt
rising-up (row ∷ next ∷ these) up = (up.0.0, rising-up (next ∷ these) up.1)

above-changed : (low id : ℕ) (f : Row → Row) → ((row : Row) → row_number (f row) ≡ row_number row) → (these : List Row) → Above low these → Above low (rows_changed id f these)
above-changed low id f keeps [] all = tt
above-changed low id f keeps (row ∷ these) all =
    let pass : (b : Bool) → low < row_number (cond b (f row) row) = elim [ true ↦ subst (λ n. low < n) (sym (keeps row)) all.0 | false ↦ all.0 ] in
    (pass (nat_eq (row_number row) id), above-changed low id f keeps these all.1)

-- a change of a row that keeps its id
up-changed : (id : ℕ) (f : Row → Row) → ((row : Row) → row_number (f row) ≡ row_number row) → (these : List Row) → AreUp these → AreUp (rows_changed id f these)
up-changed id f keeps [] up = tt
up-changed id f keeps (row ∷ these) up =
    let all : Above (row_number row) (rows_changed id f these) = above-changed (row_number row) id f keeps these up.0 in
    let pass : (b : Bool) → Above (row_number (cond b (f row) row)) (rows_changed id f these) =
    elim [ true ↦ subst (λ n. Above n (rows_changed id f these)) (sym (keeps row)) all | false ↦ all ] in
    (pass (nat_eq (row_number row) id), up-changed id f keeps these up.1)

-- rows that are left
up-filter : (p : Row → Bool) (these : List Row) → AreUp these → AreUp (filter p these)
up-filter p [] up = tt
up-filter p (row ∷ these) up =
    let pass : (b : Bool) → p row ≡ b → AreUp (filter p (row ∷ these)) =
    elim [
      | true ↦ λ is. rw is (each-filter (λ (other : Row). row_number row < row_number other) p these up.0, up-filter p these up.1)
      | false ↦ λ is. rw is (up-filter p these up.1)
    ] in
    pass (p row) refl

-- one more row, whose id is above all
up-append : (these : List Row) (new : Row) → AllByRecursion (λ (row : Row). row_number row < row_number new) these → AreUp these → AreUp (these ++ new ∷ [])
up-append [] new below up = (tt, tt)
up-append (row ∷ these) new below up =
    (each-append (λ (other : Row). row_number row < row_number other) these (new ∷ []) up.0 (below.0, tt), up-append these new below.1 up.1)

below-last : (row : Row) (these : List Row) → AreUp (row ∷ these) → row_number row ≤ last_id (store_rows (row ∷ these))
below-last row [] up = omega arith
below-last row (next ∷ these) up = let more = below-last next these up.1 in omega (arith, up.0.0, more)

-- no id is above the last one
all-below : (these : List Row) → AreUp these → AllByRecursion (λ (row : Row). row_number row ≤ last_id (store_rows these)) these
all-below [] up = tt
all-below (row ∷ []) up = (omega arith, tt)
all-below (row ∷ next ∷ these) up = (below-last row (next ∷ these) up, all-below (next ∷ these) up.1)

next-above : (these : List Row) (id : ℕ) → next_id (store_rows these) ≡ Some id → last_id (store_rows these) < id
next-above these id is =
    let last = last_id (store_rows these) in
    let pass : (b : Bool) → cond b None (Some (last + 1)) ≡ Some id → last < id =
    elim [
      | true ↦ λ has. absurd (none-some id has)
      | false ↦ λ has. let same : last + 1 ≡ id = cc in omega (arith, same)
    ] in
    pass (nat_eq last greatest_id) is

-- the ids of the rows that a change makes rise, if it can be made
abbrev pub MadeUp : Result (List Row × Changed) ItemFault → Type 0
MadeUp (Ok made) = AreUp made.0
MadeUp (Err fault) = Unit {0}

within-up : (attributes : List (List ℕ × AttrValue)) (made : List Row × Changed) → AreUp made.0 → MadeUp (within_most attributes made)
within-up attributes made up =
    let pass : (b : Bool) → MadeUp (cond b (Err item_fault.TooManyAttributes) (Ok made)) = elim [ true ↦ tt | false ↦ up ] in
    pass (nat_lt most_attributes (length attributes))

at-up : (id : ℕ) (these : List Row) (made : Result (List Row × Changed) ItemFault) → MadeUp made → MadeUp (at_item id these made)
at-up id these made up =
    let pass : (b : Bool) → MadeUp (cond b made (Err item_fault.NoItem)) = elim [ true ↦ up | false ↦ tt ] in
    pass (has_row id these)

module _ (now : ℕ) where
  new-up : (id : Option ℕ) (label : List ℕ) (attributes : List (List ℕ × AttrValue)) (value content : List ℕ) (these : List Row) → ((n : ℕ) → id ≡ Some n → last_id (store_rows these) < n)
      → AreUp these → MadeUp (made_new id now label attributes value content these)
  new-up None label attributes value content these above up = tt
  new-up (Some id) label attributes value content these above up =
      let new = new_row id now label attributes value content in
      let next = above id refl in
      within-up attributes (these ++ new ∷ [], changes.Made (record { 0 = id }))
      (up-append these new (each-weaker (λ (row : Row). row_number row ≤ last_id (store_rows these)) (λ (row : Row). row_number row < id) (λ row le. omega (arith, le, next)) these (all-below these up)) up)

  added-up : (id : Option ℕ) (label : List ℕ) (attributes : List (List ℕ × AttrValue)) (value content : List ℕ) (these : List Row) → AreUp these → MadeUp (made_added id now label attributes value content these)
  added-up None label attributes value content these up = new-up (next_id (store_rows these)) label attributes value content these (λ n. next-above these n) up
  added-up (Some id) label attributes value content these up =
      within-up attributes (rows_changed id (replaced now label value content) these, changes.Changed (record { 0 = id })) (up-changed id (replaced now label value content) (λ row. refl) these up)

  -- a change keeps the ids in order
  pub rows-up : (given : Change) (these : List Row) → AreUp these → MadeUp (rows_made given now these)
  rows-up (change.Add label attributes value content replace) these up = added-up (equal_id replace attributes these) label attributes value content these up
  rows-up (change.SetSecret id value content) these up =
      at-up id.0 these (Ok (rows_changed id.0 (with_secret now value content) these, changes.Changed id)) (up-changed id.0 (with_secret now value content) (λ row. refl) these up)
  rows-up (change.SetLabel id label) these up =
      at-up id.0 these (Ok (rows_changed id.0 (with_label now label) these, changes.Changed id)) (up-changed id.0 (with_label now label) (λ row. refl) these up)
  rows-up (change.SetAttributes id attributes) these up =
      at-up id.0 these (within_most attributes (rows_changed id.0 (with_attributes now attributes) these, changes.Changed id))
      (within-up attributes (rows_changed id.0 (with_attributes now attributes) these, changes.Changed id) (up-changed id.0 (with_attributes now attributes) (λ row. refl) these up))
  rows-up (change.Remove id) these up = at-up id.0 these (Ok (rows_without id.0 these, changes.Removed id)) (up-filter _ these up)
  rows-up (change.SetName label) these up = up

-- ---- a clear part in order of its ids

firsts-zip : (clear : List ClearItem) (items : List FullItem) → length items ≡ length clear → map (λ (row : Row). row.0) (zip clear items) ≡ clear
firsts-zip [] items same = refl
firsts-zip (one ∷ clear) [] same = absurd (omega (arith, same))
firsts-zip (one ∷ clear) (item ∷ items) same = ap (λ (t : List ClearItem). one ∷ t) (firsts-zip clear items (omega (arith, same)))

-- the items that are held of a content are those of its clear part, in order of their ids
pub arranged-ids : (content : Content) → length content.items ≡ length content.clear.items → ids_of (by_id content.clear).items ≡ map row_number (arranged_rows content)
arranged-ids content counted =
    let first : Row → ClearItem = λ row. row.0 in
    let number : ClearItem → ℕ = λ item. item.id.0 in
    let ordered = by_number row_number (rows content) in
    let firsts : map first ordered ≡ by_number number content.clear.items =
    map-by_number first row_number number (λ row. refl) (rows content) ∙ ap (by_number number) (firsts-zip content.clear.items content.items counted) in
    ap ids_of (sym firsts) ∙ map-map number first ordered ∙ sym (map-map row_number hashed_row ordered)

-- an item without anything
blank : FullItem
blank = record { label = []; value = []; created = 0; modified = 0; attributes = []; access = [] }

-- in that order the ids rise
pub by-id-rises : (clear : ClearPart) → IsStrictlyIncreasing (ids_of (by_id clear).items)
by-id-rises clear =
    let content : Content = record { clear = clear; items = map (λ (item : ClearItem). blank) clear.items } in
    let same : ids_of (by_id clear).items ≡ map row_number (arranged_rows content) = arranged-ids content (length_of_map (λ (item : ClearItem). blank) clear.items) in
    subst (λ l. IsStrictlyIncreasing l) (sym same) (place_by_rising row_number (arranged_rows content) (rows_rising content))

-- a clear part whose ids rise is in order
by-id-stays : (clear : ClearPart) → IsStrictlyIncreasing (ids_of clear.items) → by_id clear ≡ clear
by-id-stays clear rising =
    let number : ClearItem → ℕ = λ item. item.id.0 in
    ap (λ (t : List ClearItem). record clear { items = t }) (rising_by_number number clear.items (rising_by_place number clear.items rising))

-- ---- a content that is sealed

-- the ids of the clear items are those of the rows
pub ids-rows : (these : List Row) → ids_of (map (λ (row : Row). row.0) these) ≡ map row_number these
ids-rows these = map-map (λ (item : ClearItem). item.id.0) (λ (row : Row). row.0) these

pub ids-up : (these : List Row) → AreUp these → IsStrictlyIncreasing (ids_of (map (λ (row : Row). row.0) these))
ids-up these up = subst (λ l. IsStrictlyIncreasing l) (sym (ids-rows these)) (place_by_rising row_number these (rising-up these up))

-- what an unlocked collection holds is in order, since what it shows is
pub held-up : (clear : ClearPart) (held : Held) → AreShown clear → ids_of clear.items ≡ map row_number held.rows → AreUp held.rows
held-up clear held shown same = up-rising held.rows (rising_by_place row_number held.rows (subst (λ l. IsStrictlyIncreasing l) same shown.ordered))

apart : (x y : ℕ) → x < y → nat_eq x y ≡ false
apart x y lt = grind (arith, nat_tests)

-- numbers that rise occur once
distinct-rising : (xs : List ℕ) → IsStrictlyIncreasing xs → IsDistinct nat_eq xs
distinct-rising xs up = IsDistinct-from_apart nat_eq xs (λ i j d lt within. apart _ _ (below_from_sorted xs i j d (sorted_from_strictly_increasing xs up) lt within))

module _ (front : ClearPart) (these : List Row) (shown : AreShown (of_rows front these).clear) (known : AllByRecursion IsSoundItem these) where
  can-seal : IsSealable (of_rows front these)
  can-seal = record {
    counted = length_of_map (λ (row : Row). row.1) these ∙ sym (length_of_map (λ (row : Row). row.0) these);
    distinct = distinct-rising (ids_of (map (λ (row : Row). row.0) these)) shown.ordered;
    iterations = shown.iterations;
  }

  is-known : IsKnown (of_rows front these)
  is-known = record {
    clear = record {
      name = shown.label;
      created = shown.created;
      modified = shown.modified;
      flags = shown.flags;
      timeout = shown.timeout;
      salt = shown.salt;
      version = shown.version;
    };
    clear_items = shown.items;
    items = each-mapped (λ (row : Row). row.1) IsKnownItem these (each-weaker IsSoundItem (λ (row : Row). IsKnownItem row.1) (λ row is. is.full) these known);
  }

  numbers-hashed : (any : List Row) → ids_of (map (λ (row : Row). row.0) (map hashed_row any)) ≡ ids_of (map (λ (row : Row). row.0) any)
  numbers-hashed [] = refl
  numbers-hashed (row ∷ any) = ap (λ (t : List ℕ). row_number row ∷ t) (numbers-hashed any)

  -- the ids of what is sealed are those of the content
  ids-sealed : ids_of (map (λ (row : Row). row.0) these) ≡ ids_of (by_id (arranged (of_rows front these)).clear).items
  ids-sealed =
      let made = arranged (of_rows front these) in
      let rising : IsStrictlyIncreasing (ids_of made.clear.items) = (is_arrangement (of_rows front these) can-seal).rising in
      let stays : by_id made.clear ≡ made.clear = by-id-stays made.clear rising in
      let stand : these ≡ by_number row_number (rows (of_rows front these)) =
      sym (rows_again these) ∙ as_they_stand (map (λ (row : Row). row.0) these) (map (λ (row : Row). row.1) these) shown.ordered in
      ap (λ (t : List Row). ids_of (map (λ (row : Row). row.0) t)) stand ∙ sym (numbers-hashed (by_number row_number (rows (of_rows front these)))) ∙ ap (λ (clear : ClearPart). ids_of clear.items) (sym stays)

  -- its file has the items of its clear part
  pub sealed-shows : (key vector : List ℕ) → length (sealed (of_rows front these) key vector) ≤ most_bytes → ShowsItems (Some (sealed (of_rows front these) key vector)) (of_rows front these).clear
  sealed-shows key vector small = (
    (arranged (of_rows front these)).clear,
    (_, sealed_clear (of_rows front these) can-seal is-known key vector small),
    ids-sealed,
  )

-- ---- a file in doubt

-- what is shown has the items of the older image
pub older-shows : (file : File) (clear : ClearPart) → ShowsItems (shown_image file) clear → ShowsItems (old_image file) clear
older-shows (Known image) clear shows = shows
older-shows (Doubt None new) clear shows = tt
older-shows (Doubt (Some bytes) new) clear shows = shows

-- ---- an item that is shown

any-shown : (id : ℕ) (items : List ClearItem) → list_any (λ (item : ClearItem). nat_eq item.id.0 id) items ≡ list_any (λ n. nat_eq n id) (ids_of items)
any-shown id [] = refl
any-shown id (item ∷ items) =
    let more = any-shown id items in
    let pass : (b : Bool) → nat_eq item.id.0 id ≡ b → list_any (λ (item : ClearItem). nat_eq item.id.0 id) (item ∷ items) ≡ list_any (λ n. nat_eq n id) (ids_of (item ∷ items)) =
    elim [ true ↦ λ is. rw is refl | false ↦ λ is. rw is more ] in
    pass (nat_eq item.id.0 id) refl

any-held : (id : ℕ) (these : List Row) → is_some (row_at id these) ≡ list_any (λ n. nat_eq n id) (map row_number these)
any-held id [] = refl
any-held id (row ∷ these) =
    let more = any-held id these in
    let pass : (b : Bool) → nat_eq (row_number row) id ≡ b → is_some (row_at id (row ∷ these)) ≡ list_any (λ n. nat_eq n id) (map row_number (row ∷ these)) =
    elim [ true ↦ λ is. rw is refl | false ↦ λ is. rw is more ] in
    pass (nat_eq (row_number row) id) refl

-- an unlocked collection holds an item that it shows
held-there : (id : ℕ) (clear : ClearPart) (held : Held) → ids_of clear.items ≡ map row_number held.rows → list_any (λ (item : ClearItem). nat_eq item.id.0 id) clear.items ≡ true → is_some (row_at id held.rows) ≡ true
held-there id clear held same shown =
    any-held id held.rows ∙ ap (λ (ids : List ℕ). list_any (λ n. nat_eq n id) ids) (sym same) ∙ sym (any-shown id clear.items) ∙ shown

-- of two things that are there a secret is made
both-there : (session : SessionId) (row : Option Row) (content : Option (List ℕ)) → is_some row ≡ true → is_some content ≡ true
    → (secret : ReturnedSecret) × (option_and_then (λ (full : FullItem). option_map (λ content. record { session = session; value = full.value; content = content }) content) (option_map (λ (row : Row). row.1) row) ≡ Some secret)
both-there session None content row there = absurd (let no : false ≡ true = row in cc)
both-there session (Some row) None is there = absurd (let no : false ≡ true = there in cc)
both-there session (Some row) (Some content) is there = (record { session = session; value = row.1.value; content = content }, refl)

-- an item that an unlocked collection shows has a secret
pub secret-there : (session : SessionId) (rows : Rows) (stem : List ℕ) (item : ItemId) → AreSoundCollections rows → is_open stem rows ≡ true → has_item stem item.0 rows ≡ true
    → (secret : ReturnedSecret) × (secret_of session rows stem item ≡ Some secret)
secret-there session rows stem item sound unlocked shown =
    let secret_in : Option CollectionRow → Option ReturnedSecret =
    λ found.
    option_and_then (λ (full : FullItem). option_map (λ content. record { session = session; value = full.value; content = content }) (option_map_or (λ (row : CollectionRow). content_at item.0 row.clear.items) found None))
    (option_map_or (λ (row : CollectionRow). item_at item.0 row.held) found None) in
    let content : is_some (content_of stem item.0 rows) ≡ true = content-any stem item.0 rows ∙ shown in
    let of_held : (row : CollectionRow) (h : Option Held) → row.held ≡ h → value_at stem rows ≡ Some row → is_some h ≡ true
    → (secret : ReturnedSecret)
    × (option_and_then (λ (full : FullItem). option_map (λ content. record { session = session; value = full.value; content = content }) (content_at item.0 row.clear.items)) (item_at item.0 h) ≡ Some secret) =
    λ row. elim [
      | None ↦ λ is at there. absurd (let no : false ≡ true = there in cc)
      | Some held ↦ λ is at there.
          let here : IsSoundCollection (stem, row) = at-stem IsSoundCollection stem row rows sound.each at in
          let holds : HoldsShown row.file row.clear held = subst (λ o. IfSome o (HoldsShown row.file row.clear)) is here.holds in
          let its : shows_item item.0 row ≡ true = rw at at shown in
          let kept : is_some (content_at item.0 row.clear.items) ≡ true = rw at at content in
          both-there session (row_at item.0 held.rows) (content_at item.0 row.clear.items) (held-there item.0 row.clear held holds.items its) kept
    ] in
    let pass : (o : Option CollectionRow) → value_at stem rows ≡ o → (secret : ReturnedSecret) × (secret_in o ≡ Some secret) =
    elim [
      | None ↦ λ at. absurd (let no : false ≡ true = rw at at unlocked in cc)
      | Some row ↦ λ at. of_held row row.held refl at (rw at at unlocked)
    ] in
    pass (value_at stem rows) refl
