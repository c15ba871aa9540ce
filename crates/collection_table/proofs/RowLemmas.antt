-- The rows that the collections stand for: what is read of them, and how much there is.
use Rattle.std.proofs.Common.{◌≡◌, ◌↔◌, ℕ, ◌+◌, ◌<◌, Bool, true, false, List, [], ◌∷◌, ◌++◌, find, get_or, length, map, min, nat_eq, take, IsSome, IsTrue, Option, None, Some, refl, sym, ◌∙◌, ap, arith, subst, filter, not}
use Rattle.std.specs.List.{list_any}
use Rattle.std.specs.Map.{keys_of}
use Rattle.std.specs.Cmp.Lexicographic.{slice_cmp}
use Rattle.std.specs.Ordering.{is_lt, nat_cmp}
use Rattle.std.specs.Option.{is_some, option_map, option_map_or}
use Rattle.std.proofs.lemmas.List.{take_more}
use Rattle.std.proofs.lemmas.List.Sums.{sum_by-append}
use Rattle.std.proofs.lemmas.Map.Made.{lookup-map_values}
use Rattle.kr_base.specs.Attributes.{is_name, value_at}
use Rattle.kr_base.specs.declared.ids.ItemId.{ItemId}
use Rattle.replace_slot.specs.Cell.{Doubt, longest_of, old_image}
use Rattle.keyring_file.specs.declared.clear.ClearItem.{ClearItem}
use Rattle.keyring_seal.specs.declared.content.Content.{Content}
use Rattle.collection_store.specs.Changes.{content_changed}
use Rattle.collection_store.specs.Outcomes.{IsChanged, IsSame, IsStored, IsUnsure, MayBeChanged}
use Rattle.collection_store.specs.declared.change.Change.{Change}
use Rattle.collection_store.specs.declared.change.Changed.{Changed}
use Rattle.collection_store.specs.CollectionReading.{content_at, item_at}
use Rattle.collection_store.specs.State.{CollectionState, HasMostItems, Held, by_id, most_items}
use Rattle.folder_store.specs.Ring.{RingState}
use Rattle.collection_table.specs.Changing.{after_change, after_unsure, made_perhaps, made_stored}
use Rattle.collection_table.specs.Entries.{Entries, changed, closed, inserted, loaded_from, row_of, rows_of, slots_of, without}
use Rattle.collection_table.specs.Rows.{AddUp, CollectionRow, HaveItems, Rows, bytes_in, content_of, has, has_item, is_open, is_unlocked, item_of, items_in, locked, most, perhaps_removed, perhaps_stored, shows_item, stored}

-- ---- single values

wrapped : (ids : List ItemId) → ids ≡ map (λ n. record { 0 = n }) (map (λ (id : ItemId). id.0) ids)
wrapped [] = refl
wrapped (id ∷ ids) = ap (λ l. id ∷ l) (wrapped ids)

-- ids by their numbers
pub ids_are : (ids : List ItemId) (numbers : List ℕ) → map (λ (id : ItemId). id.0) ids ≡ numbers → ids ≡ map (λ n. record { 0 = n }) numbers
ids_are ids numbers e = wrapped ids ∙ ap (λ l. map (λ n. record { 0 = n }) l) e

-- a test that finds whether there is a value
pub tested : {A : Type 0} (b : Bool) (o : Option A) → (IsTrue b ↔ IsSome o) → b ≡ is_some o
tested true (Some a) both = refl
tested false (Some a) both = absurd (let e : false ≡ true = both.1 refl in cc)
tested true None both = absurd (let e : false ≡ true = both.0 refl in cc)
tested false None both = refl

found-any : {A B : Type 0} (f : A → B) (p : A → Bool) (xs : List A) → is_some (option_map f (find p xs)) ≡ list_any p xs
found-any f p [] = refl
found-any f p (x ∷ xs) =
    let step : (b : Bool) → p x ≡ b → is_some (option_map f (find p (x ∷ xs))) ≡ list_any p (x ∷ xs) =
    elim [
      | true ↦ λ is. rw is refl
      | false ↦ λ off. rw off (found-any f p xs)
    ] in
    step (p x) refl

pub some-mapped : {A B : Type 0} (f : A → B) (o : Option A) → is_some (option_map f o) ≡ is_some o
some-mapped f None = refl
some-mapped f (Some a) = refl

-- a count that has reached the greatest number stays there
topped : (m a b : ℕ) → min (min a m + b) m ≡ min (a + b) m
topped m a b = omega arith

alone : (a b : ℕ) → a + (0 + b) ≡ a + b
alone a b = omega arith

bytes-pushed : (rows : Rows) (row : List ℕ × CollectionRow) → bytes_in (rows ++ row ∷ []) ≡ bytes_in rows + longest_of row.1.file
bytes-pushed rows row = sum_by-append (λ (r : List ℕ × CollectionRow). longest_of r.1.file) rows (row ∷ []) ∙ alone (bytes_in rows) (longest_of row.1.file)

items-pushed : (rows : Rows) (row : List ℕ × CollectionRow) → items_in (rows ++ row ∷ []) ≡ items_in rows + most_items row.1.file row.1.clear row.1.other
items-pushed rows row = sum_by-append (λ (r : List ℕ × CollectionRow). most_items r.1.file r.1.clear r.1.other) rows (row ∷ []) ∙ alone (items_in rows) (most_items row.1.file row.1.clear row.1.other)

adds-pushed : (rows : Rows) (row : List ℕ × CollectionRow) (total one : ℕ) → AddUp rows total → HasMostItems row.1.file one → AddUp (rows ++ row ∷ []) (total + one)
adds-pushed [] row total one none most_here = (one, 0, most_here, refl, omega (arith, none))
adds-pushed (first ∷ rows) row total one (a, b, here, rest, sum) most_here = (a, b + one, here, adds-pushed rows row b one rest most_here, omega (arith, sum))

-- an item is shown where its content type is
pub content-any : (stem : List ℕ) (id : ℕ) (rows : Rows) → is_some (content_of stem id rows) ≡ has_item stem id rows
content-any stem id rows = by_row (value_at stem rows)
  where
    by_row : (o : Option CollectionRow) → is_some (option_map_or (λ (row : CollectionRow). content_at id row.clear.items) o None) ≡ option_map_or (shows_item id) o false
    by_row None = refl
    by_row (Some row) = found-any (λ (item : ClearItem). item.content) (λ (item : ClearItem). nat_eq item.id.0 id) row.clear.items

none-there : {A : Type 0} (o : Option A) → is_some o ≡ false → o ≡ None
none-there None off = refl
none-there (Some a) off = absurd (let no : true ≡ false = off in cc)

module _ {S : Type 0} where
  -- ---- what is read

  pub keys-rows : (entries : Entries S) → keys_of entries ≡ keys_of (rows_of entries)
  keys-rows [] = refl
  keys-rows (e ∷ entries) = ap (λ l. e.0 ∷ l) (keys-rows entries)

  pub value-rows : (stem : List ℕ) (entries : Entries S) → value_at stem (rows_of entries) ≡ option_map row_of (value_at stem entries)
  value-rows stem entries = lookup-map_values row_of (is_name stem) entries

  pub has-rows : (stem : List ℕ) (entries : Entries S) → has stem (rows_of entries) ≡ is_some (value_at stem entries)
  has-rows stem entries = ap is_some (value-rows stem entries) ∙ some-mapped row_of (value_at stem entries)

  -- there is no collection of a stem that isn't in the rows
  pub not-there : (stem : List ℕ) (entries : Entries S) → has stem (rows_of entries) ≡ false → value_at stem entries ≡ None
  not-there stem entries off = none-there (value_at stem entries) (sym (has-rows stem entries) ∙ off)

  pub content-there : (stem : List ℕ) (id : ℕ) (entries : Entries S) (c : CollectionState S) → Some c ≡ value_at stem entries → content_at id c.clear.items ≡ content_of stem id (rows_of entries)
  content-there stem id entries c there = sym (ap (λ o. option_map_or (λ (row : CollectionRow). content_at id row.clear.items) o None) (value-rows stem entries ∙ ap (option_map row_of) (sym there)))

  pub content-missing : (stem : List ℕ) (id : ℕ) (entries : Entries S) → None ≡ value_at stem entries → None ≡ content_of stem id (rows_of entries)
  content-missing stem id entries none = sym (ap (λ o. option_map_or (λ (row : CollectionRow). content_at id row.clear.items) o None) (value-rows stem entries ∙ ap (option_map row_of) (sym none)))

  pub item-there : (stem : List ℕ) (id : ℕ) (entries : Entries S) (c : CollectionState S) → Some c ≡ value_at stem entries → item_at id c.held ≡ item_of stem id (rows_of entries)
  item-there stem id entries c there = sym (ap (λ o. option_map_or (λ (row : CollectionRow). item_at id row.held) o None) (value-rows stem entries ∙ ap (option_map row_of) (sym there)))

  pub item-missing : (stem : List ℕ) (id : ℕ) (entries : Entries S) → None ≡ value_at stem entries → None ≡ item_of stem id (rows_of entries)
  item-missing stem id entries none = sym (ap (λ o. option_map_or (λ (row : CollectionRow). item_at id row.held) o None) (value-rows stem entries ∙ ap (option_map row_of) (sym none)))

  pub open-there : (stem : List ℕ) (entries : Entries S) (c : CollectionState S) → Some c ≡ value_at stem entries → is_some c.held ≡ is_open stem (rows_of entries)
  open-there stem entries c there = sym (ap (λ o. option_map_or is_unlocked o false) (value-rows stem entries ∙ ap (option_map row_of) (sym there)))

  pub open-missing : (stem : List ℕ) (entries : Entries S) → None ≡ value_at stem entries → false ≡ is_open stem (rows_of entries)
  open-missing stem entries none = sym (ap (λ o. option_map_or is_unlocked o false) (value-rows stem entries ∙ ap (option_map row_of) (sym none)))

  -- ---- a collection that is locked

  -- the row of what is at a stem changes with it, and no other
  pub rows-changed : (stem : List ℕ) (f : CollectionState S → CollectionState S) (g : CollectionRow → CollectionRow) → ((c : CollectionState S) → row_of (f c) ≡ g (row_of c))
      → (entries : Entries S) → rows_of (changed stem f entries) ≡ changed stem g (rows_of entries)
  rows-changed stem f g each [] = refl
  rows-changed stem f g each (e ∷ more) =
      let step : (b : Bool) → is_name stem e.0 ≡ b → rows_of (changed stem f (e ∷ more)) ≡ changed stem g (rows_of (e ∷ more)) =
      elim [
        | true ↦ λ is. rw is (λ i. (e.0, each e.1 i) ∷ rows-changed stem f g each more i)
        | false ↦ λ off. rw off (ap (λ t. (e.0, row_of e.1) ∷ t) (rows-changed stem f g each more))
      ] in
      step (is_name stem e.0) refl

  pub rows-locked : (stem : List ℕ) (entries : Entries S) → rows_of (changed stem closed entries) ≡ changed stem locked (rows_of entries)
  rows-locked stem entries = rows-changed stem closed locked (λ c. refl) entries

  -- a filter by stems passes the rows of what it passes
  rows-filtered : (p : List ℕ → Bool) (entries : Entries S) → rows_of (filter (λ (e : List ℕ × CollectionState S). p e.0) entries) ≡ filter (λ (e : List ℕ × CollectionRow). p e.0) (rows_of entries)
  rows-filtered p [] = refl
  rows-filtered p (e ∷ more) =
      let step : (b : Bool) → p e.0 ≡ b → rows_of (filter (λ (x : List ℕ × CollectionState S). p x.0) (e ∷ more)) ≡ filter (λ (x : List ℕ × CollectionRow). p x.0) (rows_of (e ∷ more)) =
      elim [
        | true ↦ λ is. rw is (ap (λ t. (e.0, row_of e.1) ∷ t) (rows-filtered p more))
        | false ↦ λ off. rw off (rows-filtered p more)
      ] in
      step (p e.0) refl

  pub rows-without : (stem : List ℕ) (entries : Entries S) → rows_of (without stem entries) ≡ without stem (rows_of entries)
  rows-without stem entries = rows-filtered (λ other. not (is_name stem other)) entries

  rows-joined : (entries more : Entries S) → rows_of (entries ++ more) ≡ rows_of entries ++ rows_of more
  rows-joined [] more = refl
  rows-joined (e ∷ entries) more = ap (λ l. (e.0, row_of e.1) ∷ l) (rows-joined entries more)

  pub rows-inserted : (stem : List ℕ) (c : CollectionState S) (entries : Entries S) → rows_of (inserted stem c entries) ≡ inserted stem (row_of c) (rows_of entries)
  rows-inserted stem c entries =
      let front = rows-filtered (λ other. is_lt (slice_cmp nat_cmp other stem)) entries in
      let back = rows-filtered (λ other. is_lt (slice_cmp nat_cmp stem other)) entries in
      rows-joined (filter (λ (e : List ℕ × CollectionState S). is_lt (slice_cmp nat_cmp e.0 stem)) entries) ((stem, c) ∷ filter (λ (e : List ℕ × CollectionState S). is_lt (slice_cmp nat_cmp stem e.0)) entries)
      ∙ (λ i. front i ++ (stem, row_of c) ∷ back i)

  -- ---- a start

  pub keys-loaded : (rings : List (RingState S)) → map (λ (ring : RingState S). ring.stem) rings ≡ keys_of (map loaded_from rings)
  keys-loaded [] = refl
  keys-loaded (ring ∷ rings) = ap (λ l. ring.stem ∷ l) (keys-loaded rings)

  pub is-loaded : (ring : RingState S) (c : CollectionState S) → c.slot ≡ ring.cell.slot → c.file ≡ ring.cell.file → c.clear ≡ by_id ring.clear → c.other ≡ None → c.held ≡ None → (ring.stem, c) ≡ loaded_from ring
  is-loaded ring c slot file clear other held = λ i. (ring.stem, record { slot = slot i; file = file i; clear = clear i; other = other i; held = held i })

  -- ---- how much there is

  rows-more : (entries : Entries S) (place : ℕ) (x : List ℕ × CollectionState S) → place < length entries → x ≡ get_or entries place x
      → rows_of (take (place + 1) entries) ≡ rows_of (take place entries) ++ (x.0, row_of x.1) ∷ []
  rows-more entries place x lt read =
      ap rows_of (take_more entries place x lt ∙ ap (λ y. take place entries ++ y ∷ []) (sym read)) ∙ pushed (take place entries)
    where
      pushed : (front : Entries S) → rows_of (front ++ x ∷ []) ≡ rows_of front ++ (x.0, row_of x.1) ∷ []
      pushed [] = refl
      pushed (e ∷ front) = ap (λ l. (e.0, row_of e.1) ∷ l) (pushed front)

  pub bytes-more : (entries : Entries S) (place : ℕ) (x : List ℕ × CollectionState S) (count next : ℕ) → place < length entries → x ≡ get_or entries place x
      → count ≡ min (bytes_in (rows_of (take place entries))) most → next ≡ min (count + longest_of x.1.file) most
      → next ≡ min (bytes_in (rows_of (take (place + 1) entries))) most
  bytes-more entries place x count next lt read before made =
      let all : bytes_in (rows_of (take (place + 1) entries)) ≡ bytes_in (rows_of (take place entries)) + longest_of x.1.file =
      ap bytes_in (rows-more entries place x lt read) ∙ bytes-pushed (rows_of (take place entries)) (x.0, row_of x.1) in
      made ∙ ap (λ n. min (n + longest_of x.1.file) most) before ∙ topped most (bytes_in (rows_of (take place entries))) (longest_of x.1.file) ∙ ap (λ n. min n most) (sym all)

  pub counts-more : (entries : Entries S) (place : ℕ) (x : List ℕ × CollectionState S) (count one next : ℕ) → place < length entries → x ≡ get_or entries place x
      → count ≡ min (items_in (rows_of (take place entries))) most → one ≡ most_items (get_or entries place x).1.file (get_or entries place x).1.clear (get_or entries place x).1.other → next ≡ min (count + one) most
      → next ≡ min (items_in (rows_of (take (place + 1) entries))) most
  counts-more entries place x count one next lt read before is made =
      let all : items_in (rows_of (take (place + 1) entries)) ≡ items_in (rows_of (take place entries)) + most_items x.1.file x.1.clear x.1.other =
      ap items_in (rows-more entries place x lt read) ∙ items-pushed (rows_of (take place entries)) (x.0, row_of x.1) in
      let own : one ≡ most_items x.1.file x.1.clear x.1.other = is ∙ ap (λ (y : List ℕ × CollectionState S). most_items y.1.file y.1.clear y.1.other) (sym read) in
      made ∙ (λ i. min (before i + own i) most) ∙ topped most (items_in (rows_of (take place entries))) (most_items x.1.file x.1.clear x.1.other) ∙ ap (λ n. min n most) (sym all)

  pub items-more : (entries : Entries S) (place : ℕ) (x : List ℕ × CollectionState S) (count one next : ℕ) → place < length entries → x ≡ get_or entries place x
      → HaveItems (rows_of (take place entries)) count → HasMostItems (get_or entries place x).1.file one → next ≡ min (count + one) most
      → HaveItems (rows_of (take (place + 1) entries)) next
  items-more entries place x count one next lt read (total, adds, before) most_here made = (
    total + one,
    subst (λ l. AddUp l (total + one)) (sym (rows-more entries place x lt read)) (adds-pushed (rows_of (take place entries)) (x.0, row_of x.1) total one adds (subst (λ (y : List ℕ × CollectionState S). HasMostItems y.1.file one) (sym read) most_here)),
    made ∙ ap (λ n. min (n + one) most) before ∙ topped most total one,
  )

  -- ---- what is stored

  pub row-stored : (content : Content) (key vector : List ℕ) (c : CollectionState S) → IsStored content key vector c → row_of c ≡ stored content key vector
  row-stored content key vector c is = λ i. record { file = is.file i; clear = is.clear i; other = is.other i; held = is.held i }

  pub row-perhaps : (content : Content) (key vector : List ℕ) (old c : CollectionState S) → IsUnsure content key vector old c → row_of c ≡ perhaps_stored content key vector (row_of old)
  row-perhaps content key vector old c is = λ i. record { file = is.file i; clear = is.clear i; other = is.other i; held = is.locked i }

  pub row-same : (old c : CollectionState S) → IsSame old c → row_of c ≡ row_of old
  row-same old c is = λ i. record { file = is.file i; clear = is.clear i; other = is.other i; held = is.held i }

  pub row-removed : (old c : CollectionState S) → c.file ≡ Doubt (old_image old.file) None → c.clear ≡ old.clear → c.other ≡ None → c.held ≡ None → row_of c ≡ perhaps_removed (row_of old)
  row-removed old c file clear other held = λ i. record { file = file i; clear = clear i; other = other i; held = held i }

  pub row-changed : (change : Change) (now : ℕ) (old : CollectionState S) (held : Held) (c : CollectionState S) (answer : Changed) → old.held ≡ Some held → IsChanged change now old held c answer → row_of c ≡ after_change change now (row_of old)
  row-changed change now old held c answer open_so is =
      row-stored is.content held.key held.vector c is.stored
      ∙ sym (ap (λ o. option_map_or (λ (h : Held). made_stored h (row_of old) (content_changed change now old.clear h.rows)) o (row_of old)) open_so ∙ ap (λ m. made_stored held (row_of old) m) is.made)

  pub row-unsure : (change : Change) (now : ℕ) (old : CollectionState S) (held : Held) (c : CollectionState S) → old.held ≡ Some held → MayBeChanged change now old held c → row_of c ≡ after_unsure change now (row_of old)
  row-unsure change now old held c open_so is =
      row-perhaps is.content held.key held.vector old c is.unsure
      ∙ sym (ap (λ o. option_map_or (λ (h : Held). made_perhaps h (row_of old) (content_changed change now old.clear h.rows)) o (row_of old)) open_so ∙ ap (λ m. made_perhaps held (row_of old) m) is.made)

  -- ---- slots

  pub slots-changed : (stem : List ℕ) (c : CollectionState S) (entries : Entries S) → slots_of (changed stem (λ _. c) entries) ≡ changed stem (λ _. c.slot) (slots_of entries)
  slots-changed stem c [] = refl
  slots-changed stem c (e ∷ more) =
      let step : (b : Bool) → is_name stem e.0 ≡ b → slots_of (changed stem (λ _. c) (e ∷ more)) ≡ changed stem (λ _. c.slot) (slots_of (e ∷ more)) =
      elim [
        | true ↦ λ is. rw is (ap (λ t. (e.0, c.slot) ∷ t) (slots-changed stem c more))
        | false ↦ λ off. rw off (ap (λ t. (e.0, e.1.slot) ∷ t) (slots-changed stem c more))
      ] in
      step (is_name stem e.0) refl

  pub slots-locked : (stem : List ℕ) (entries : Entries S) → slots_of (changed stem closed entries) ≡ slots_of entries
  slots-locked stem [] = refl
  slots-locked stem (e ∷ more) =
      let step : (b : Bool) → is_name stem e.0 ≡ b → slots_of (changed stem closed (e ∷ more)) ≡ slots_of (e ∷ more) =
      elim [
        | true ↦ λ is. rw is (ap (λ t. (e.0, e.1.slot) ∷ t) (slots-locked stem more))
        | false ↦ λ off. rw off (ap (λ t. (e.0, e.1.slot) ∷ t) (slots-locked stem more))
      ] in
      step (is_name stem e.0) refl

  pub slots-without : (stem : List ℕ) (entries : Entries S) → slots_of (without stem entries) ≡ without stem (slots_of entries)
  slots-without stem [] = refl
  slots-without stem (e ∷ more) =
      let step : (b : Bool) → is_name stem e.0 ≡ b → slots_of (without stem (e ∷ more)) ≡ without stem (slots_of (e ∷ more)) =
      elim [
        | true ↦ λ is. rw is (slots-without stem more)
        | false ↦ λ off. rw off (ap (λ t. (e.0, e.1.slot) ∷ t) (slots-without stem more))
      ] in
      step (is_name stem e.0) refl
