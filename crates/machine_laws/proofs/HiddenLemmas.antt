-- What announces a change doesn't depend on the values of secrets, on keys, or on the value that an event brings.
use Rattle.std.proofs.Common.{◌≡◌, ◌⊎◌, inl, inr, ℕ, ◌+◌, ◌||◌, Bool, true, false, cond, not, nat_eq, nat_le, List, [], ◌∷◌, map, filter, Option, Some, None, is_some, Result, Ok, Err, refl, sym, ap, ◌∙◌}
use Rattle.std.specs.Option.{option_and_then, option_map, option_map_or}
use Rattle.std.proofs.lemmas.List.Sums.{sum_by-cons}
use Rattle.std.proofs.lemmas.Map.Made.{lookup-map_values}
use Rattle.kr_base.specs.Attributes.{is_name, value_at}
use Rattle.kr_base.specs.declared.attributes.AttrValue.{AttrValue}
use Rattle.kr_base.specs.declared.ids.ItemId.{ItemId}
use Rattle.replace_slot.specs.declared.images.Found.{Found}
use Rattle.replace_slot.specs.declared.images.Found.TheVariants as image
use Rattle.keyring_file.specs.Clear.{ClearPart}
use Rattle.service_events.specs.collection_store.specs.Changes.{as_content, at_item, content_changed, equal_id, has_row, made_added, made_new, name_made, rows_made, store_rows, within_most}
use Rattle.service_events.specs.collection_store.specs.State.{Held, most_items}
use Rattle.service_events.specs.collection_store.specs.Storable.{answer_new, answer_of}
use Rattle.service_events.specs.collection_store.specs.declared.change.Changed.{Changed}
use Rattle.service_events.specs.collection_store.specs.declared.change.Changed.TheVariants as changes
use Rattle.service_events.specs.collection_table.specs.Rows.{CollectionRow, Rows, is_full, is_unlocked, items_in}
use Rattle.service_events.specs.item_store.specs.Rows as items
use Rattle.service_events.specs.item_store.specs.Rows.{first_id, greatest_id, has_just, ids_where, last_id, next_id}
use Rattle.service_events.specs.item_store.specs.declared.fault.ItemFault.{ItemFault}
use Rattle.service_events.specs.item_store.specs.declared.fault.ItemFault.TheVariants as item_fault
use Rattle.service_events.specs.secret_calls.specs.declared.signal.Signal.{Signal}
use Rattle.service_events.specs.secret_calls.specs.declared.signal.Signal.TheVariants as signal
use Rattle.service_events.specs.service_disk.specs.Opening.{opening_of}
use Rattle.service_events.specs.service_disk.specs.declared.opening.Opening.{Opening}
use Rattle.service_events.specs.service_disk.specs.declared.opening.Opening.TheVariants as ends
use Rattle.service_events.specs.service_prompts.specs.Announcing.{answered_signals, change_signals, closing_signals, collection_path, erase_signals, gone_signals, item_path, item_shows, leaving_signals, lock_signals, named_signals, store_signals}
use Rattle.service_events.specs.service_tables.specs.Storing.{Add_item, Brought, Edit, Remove_item, Set_attributes, Set_label, Set_name, Set_secret, answered_at, change_of, has_place, placed}
use Rattle.service_events.specs.service_tables.specs.declared.fate.ReadFate.{ReadFate}
use Rattle.service_events.specs.service_tables.specs.declared.fate.ReadFate.TheVariants as read
use Rattle.service_events.specs.service_tables.specs.declared.fate.StoreFate.{StoreFate}
use Rattle.service_events.specs.service_tables.specs.declared.fate.StoreFate.TheVariants as fate
use Rattle.service_events.specs.service_tables.specs.keyring_seal.specs.Arranged.{Row, row_number}
use Rattle.service_events.specs.Announced.{demand_signals, found_signals, opening_signals, reading_signals, rekey_signals, row_found_signals, unlock_signals}
use Rattle.service_events.specs.Plan.{Aliases_file, Collection_file, Demand, Erase, KeyTerms, Make, Reading, Rekey, Set_alias, Store}
use Rattle.service_events.specs.Run.{key_with}
use Rattle.machine_laws.specs.Announcing.{all_hidden, hidden, hidden_held, hidden_item, valueless}

-- ---- the items of a collection

has-hidden : (id : ℕ) (rows : List Row) → has_row id (map hidden_item rows) ≡ has_row id rows
has-hidden id [] = refl
has-hidden id (row ∷ rows) = ap (λ (b : Bool). nat_eq (row_number row) id || b) (has-hidden id rows)

ids-hidden : (given : List (List ℕ × AttrValue)) (rows : List Row) → ids_where (has_just given) (store_rows (map hidden_item rows)) ≡ ids_where (has_just given) (store_rows rows)
ids-hidden given [] = refl
ids-hidden given (row ∷ rows) =
    let rest = ids-hidden given rows in
    let passes : ℕ × items.Row → Bool = λ it. has_just given it.1 in
    let one = filter passes (store_rows (map hidden_item rows)) in
    let other = filter passes (store_rows rows) in
    let first : ℕ × items.Row = (row_number row, record { kind = row.0.kind; item = record row.1 { value = [] } }) in
    let second : ℕ × items.Row = (row_number row, record { kind = row.0.kind; item = row.1 }) in
    let pass : (b : Bool) → map (λ (it : ℕ × items.Row). it.0) (cond b (first ∷ one) one) ≡ map (λ (it : ℕ × items.Row). it.0) (cond b (second ∷ other) other) =
    elim [ true ↦ ap (λ (l : List ℕ). row_number row ∷ l) rest | false ↦ rest ] in
    pass (has_just given (record { kind = row.0.kind; item = row.1 }))

equal-hidden : (replace : Bool) (given : List (List ℕ × AttrValue)) (rows : List Row) → equal_id replace given (map hidden_item rows) ≡ equal_id replace given rows
equal-hidden true given rows = ap first_id (ids-hidden given rows)
equal-hidden false given rows = refl

last-hidden : (rows : List Row) → last_id (store_rows (map hidden_item rows)) ≡ last_id (store_rows rows)
last-hidden [] = refl
last-hidden (row ∷ []) = refl
last-hidden (row ∷ next ∷ more) = last-hidden (next ∷ more)

next-hidden : (rows : List Row) → next_id (store_rows (map hidden_item rows)) ≡ next_id (store_rows rows)
next-hidden rows = ap (λ (n : ℕ). cond (nat_eq n greatest_id) None (Some (n + 1))) (last-hidden rows)

-- ---- what a change answers

few : {A : Type 0} (attributes : List (List ℕ × AttrValue)) (made : A) (answer : Changed) → answer_of {A = A} (within_most attributes (made, answer)) ≡ within_most attributes answer
few {A} attributes made answer =
    let pass : (b : Bool) → answer_of {A = A} (cond b (Err item_fault.TooManyAttributes) (Ok (made, answer))) ≡ cond b (Err item_fault.TooManyAttributes) (Ok answer) = elim [ true ↦ refl | false ↦ refl ] in
    pass _

there : (id : ℕ) (rows : List Row) (made : Result (List Row × Changed) ItemFault) → answer_of (at_item id rows made) ≡ cond (has_row id rows) (answer_of made) (Err item_fault.NoItem)
there id rows made =
    let pass : (b : Bool) → answer_of (cond b made (Err item_fault.NoItem)) ≡ cond b (answer_of made) (Err item_fault.NoItem) = elim [ true ↦ refl | false ↦ refl ] in
    pass (has_row id rows)

new : (id : Option ℕ) (now : ℕ) (label : List ℕ) (attributes : List (List ℕ × AttrValue)) (value content : List ℕ) (rows : List Row)
    → answer_of (made_new id now label attributes value content rows) ≡ answer_new id attributes
new None now label attributes value content rows = refl
new (Some id) now label attributes value content rows = few attributes _ (changes.Made (record { 0 = id }))

-- the answer of a new item, or of one that replaces the item of this id
abbrev answer_added : Option ℕ → Option ℕ → List (List ℕ × AttrValue) → Result Changed ItemFault
answer_added None next attributes = answer_new next attributes
answer_added (Some id) next attributes = within_most attributes (changes.Changed (record { 0 = id }))

added : (id : Option ℕ) (now : ℕ) (label : List ℕ) (attributes : List (List ℕ × AttrValue)) (value content : List ℕ) (rows : List Row)
    → answer_of (made_added id now label attributes value content rows) ≡ answer_added id (next_id (store_rows rows)) attributes
added None now label attributes value content rows = new (next_id (store_rows rows)) now label attributes value content rows
added (Some id) now label attributes value content rows = few attributes _ (changes.Changed (record { 0 = id }))

-- an item that is to be there, whose change answers the same
at-hidden : (id : ℕ) (rows : List Row) (one other : Result (List Row × Changed) ItemFault) → answer_of one ≡ answer_of other
    → answer_of (at_item id rows one) ≡ answer_of (at_item id (map hidden_item rows) other)
at-hidden id rows one other same =
    there id rows one ∙ (λ i. cond (sym (has-hidden id rows) i) (same i) (Err item_fault.NoItem)) ∙ sym (there id (map hidden_item rows) other)

rows-hidden : (value : List ℕ) (edit : Edit) (now : ℕ) (rows : List Row) → answer_of (rows_made (change_of value edit) now rows) ≡ answer_of (rows_made (change_of [] edit) now (map hidden_item rows))
rows-hidden value (Add_item label attributes content replace) now rows =
    added (equal_id replace attributes rows) now label attributes value content rows
    ∙ (λ i. answer_added (sym (equal-hidden replace attributes rows) i) (sym (next-hidden rows) i) attributes)
    ∙ sym (added (equal_id replace attributes (map hidden_item rows)) now label attributes [] content (map hidden_item rows))
rows-hidden value (Set_secret item content) now rows = at-hidden item.0 rows _ _ refl
rows-hidden value (Remove_item item) now rows = at-hidden item.0 rows _ _ refl
rows-hidden value (Set_label item label) now rows = at-hidden item.0 rows _ _ refl
rows-hidden value (Set_attributes item attributes) now rows = at-hidden item.0 rows _ _ (few attributes _ (changes.Changed item) ∙ sym (few attributes _ (changes.Changed item)))
rows-hidden value (Set_name label) now rows = refl

content-answer : (now : ℕ) (front : ClearPart) (made : Result (List Row × Changed) ItemFault) → answer_of (as_content now front made) ≡ answer_of made
content-answer now front (Ok made) = refl
content-answer now front (Err fault) = refl

-- ---- all collections

value-hidden : (stem : List ℕ) (rows : Rows) → value_at stem (all_hidden rows) ≡ option_map hidden (value_at stem rows)
value-hidden stem rows = lookup-map_values hidden (is_name stem) rows

items-hidden : (rows : Rows) → items_in (all_hidden rows) ≡ items_in rows
items-hidden [] = refl
items-hidden (row ∷ rows) =
    let count : List ℕ × CollectionRow → ℕ = λ it. most_items it.1.file it.1.clear it.1.other in
    sum_by-cons count (row.0, hidden row.1) (all_hidden rows) ∙ ap (λ (n : ℕ). count row + n) (items-hidden rows) ∙ sym (sum_by-cons count row rows)

full-hidden : (rows : Rows) → is_full (all_hidden rows) ≡ is_full rows
full-hidden rows = ap (nat_le 100000) (items-hidden rows)

place-hidden : (rows : Rows) (answer : Changed) → has_place answer (all_hidden rows) ≡ has_place answer rows
place-hidden rows (changes.Made item) = ap not (full-hidden rows)
place-hidden rows (changes.Changed item) = refl
place-hidden rows (changes.Removed item) = refl
place-hidden rows changes.Named = refl

placed-hidden : (rows : Rows) (one other : Result Changed ItemFault) → one ≡ other → placed rows one ≡ placed (all_hidden rows) other
placed-hidden rows one other same = ap (placed rows) same ∙ pass other
  where
    pass : (r : Result Changed ItemFault) → placed rows r ≡ placed (all_hidden rows) r
    pass (Ok answer) = ap (λ (b : Bool). cond b (Some answer) None) (sym (place-hidden rows answer))
    pass (Err fault) = refl

-- what the change of an unlocked collection would do
kept-hidden : (value : List ℕ) (edit : Edit) (now : ℕ) (rows : Rows) (clear : ClearPart) (o : Option Held)
    → option_and_then (λ (held : Held). placed rows (answer_of (content_changed (change_of value edit) now clear held.rows))) o
    ≡ option_and_then (λ (held : Held). placed (all_hidden rows) (answer_of (content_changed (change_of [] edit) now clear held.rows))) (option_map hidden_held o)
kept-hidden value edit now rows clear None = refl
kept-hidden value edit now rows clear (Some held) =
    let one = rows_made (change_of value edit) now held.rows in
    let other = rows_made (change_of [] edit) now (map hidden_item held.rows) in
    let first = record clear { name = name_made (change_of value edit) clear.name } in
    let second = record clear { name = name_made (change_of [] edit) clear.name } in
    placed-hidden rows (answer_of (as_content now first one)) (answer_of (as_content now second other))
    (content-answer now first one ∙ rows-hidden value edit now held.rows ∙ sym (content-answer now second other))

answered-hidden : (stem value : List ℕ) (edit : Edit) (now : ℕ) (rows : Rows) → answered_at stem (change_of value edit) now rows ≡ answered_at stem (change_of [] edit) now (all_hidden rows)
answered-hidden stem value edit now rows =
    pass (value_at stem rows) ∙ ap (λ (o : Option CollectionRow). option_and_then answers o) (sym (value-hidden stem rows))
  where
    answers : CollectionRow → Option Changed
    answers row = option_and_then (λ (held : Held). placed (all_hidden rows) (answer_of (content_changed (change_of [] edit) now row.clear held.rows))) row.held

    pass : (o : Option CollectionRow)
        → option_and_then (λ (row : CollectionRow). option_and_then (λ (held : Held). placed rows (answer_of (content_changed (change_of value edit) now row.clear held.rows))) row.held) o
        ≡ option_and_then answers (option_map hidden o)
    pass None = refl
    pass (Some row) = kept-hidden value edit now rows row.clear row.held

-- ---- what is announced of a change

shows-hidden : (stem value : List ℕ) (item : ItemId) (edit : Edit) → item_shows stem item (change_of value edit) ≡ item_shows stem item (change_of [] edit)
shows-hidden stem value item (Add_item label attributes content replace) = refl
shows-hidden stem value item (Set_secret id content) = refl
shows-hidden stem value item (Remove_item id) = refl
shows-hidden stem value item (Set_label id label) = refl
shows-hidden stem value item (Set_attributes id attributes) = refl
shows-hidden stem value item (Set_name label) = refl

named-hidden : (stem value : List ℕ) (edit : Edit) → named_signals stem (change_of value edit) ≡ named_signals stem (change_of [] edit)
named-hidden stem value (Add_item label attributes content replace) = refl
named-hidden stem value (Set_secret id content) = refl
named-hidden stem value (Remove_item id) = refl
named-hidden stem value (Set_label id label) = refl
named-hidden stem value (Set_attributes id attributes) = refl
named-hidden stem value (Set_name label) = refl

change-hidden : (stem value : List ℕ) (edit : Edit) (answer : Changed) → change_signals stem (change_of value edit) answer ≡ change_signals stem (change_of [] edit) answer
change-hidden stem value edit (changes.Made item) = refl
change-hidden stem value edit (changes.Changed item) =
    ap (λ (l : List Signal). signal.ItemChanged (collection_path stem) (item_path stem item) ∷ l) (shows-hidden stem value item edit)
change-hidden stem value edit (changes.Removed item) = refl
change-hidden stem value edit changes.Named = named-hidden stem value edit

said-hidden : (stem value : List ℕ) (edit : Edit) (ended : StoreFate) (answer : Changed) → answered_signals stem (change_of value edit) ended answer ≡ answered_signals stem (change_of [] edit) ended answer
said-hidden stem value edit fate.Stored answer = change-hidden stem value edit answer
said-hidden stem value edit fate.Before answer = refl
said-hidden stem value edit fate.Unsure answer = refl

store-hidden : (stem value : List ℕ) (edit : Edit) (ended : StoreFate) (answer : Option Changed) → store_signals stem (change_of value edit) ended answer ≡ store_signals stem (change_of [] edit) ended answer
store-hidden stem value edit ended None = refl
store-hidden stem value edit ended (Some answer) = said-hidden stem value edit ended answer

-- ---- what is announced of a collection that is locked, or gone

pub closing_hidden : (stem : List ℕ) (rows : Rows) → closing_signals stem rows ≡ closing_signals stem (all_hidden rows)
closing_hidden stem rows = ap (λ (b : Bool). cond b (lock_signals stem true) []) (pass (value_at stem rows) ∙ ap (λ (o : Option CollectionRow). option_map_or is_unlocked o false) (sym (value-hidden stem rows)))
  where
    held : (o : Option Held) → is_some o ≡ is_some (option_map hidden_held o)
    held None = refl
    held (Some it) = refl

    pass : (o : Option CollectionRow) → option_map_or is_unlocked o false ≡ option_map_or is_unlocked (option_map hidden o) false
    pass None = refl
    pass (Some row) = held row.held

leaving-hidden : (stem : List ℕ) (rows : Rows) → leaving_signals stem rows ≡ leaving_signals stem (all_hidden rows)
leaving-hidden stem rows = ap (λ (b : Bool). cond b (gone_signals stem) []) (pass (value_at stem rows) ∙ ap (λ (o : Option CollectionRow). is_some o) (sym (value-hidden stem rows)))
  where
    pass : (o : Option CollectionRow) → is_some o ≡ is_some (option_map hidden o)
    pass None = refl
    pass (Some row) = refl

erase-hidden : (stem : List ℕ) (ended : StoreFate) (rows : Rows) → erase_signals stem ended rows ≡ erase_signals stem ended (all_hidden rows)
erase-hidden stem fate.Stored rows = leaving-hidden stem rows
erase-hidden stem fate.Before rows = refl
erase-hidden stem fate.Unsure rows = closing_hidden stem rows

rekey-hidden : (stem : List ℕ) (ended : StoreFate) (rows : Rows) → rekey_signals stem ended rows ≡ rekey_signals stem ended (all_hidden rows)
rekey-hidden stem fate.Stored rows = refl
rekey-hidden stem fate.Before rows = refl
rekey-hidden stem fate.Unsure rows = closing_hidden stem rows

-- ---- the laws

pub demand_hidden : (brought : Brought) (demand : Demand) (ended : StoreFate) (rows : Rows) → demand_signals brought demand ended rows ≡ demand_signals (valueless brought) demand ended (all_hidden rows)
demand_hidden brought (Store stem edit) ended rows =
    ap (store_signals stem (change_of brought.value edit) ended) (answered-hidden stem brought.value edit brought.now rows)
    ∙ store-hidden stem brought.value edit ended (answered_at stem (change_of [] edit) brought.now (all_hidden rows))
demand_hidden brought (Erase stem) ended rows = erase-hidden stem ended rows
demand_hidden brought (Set_alias alias stem) ended rows = refl
demand_hidden brought (Make stem label terms) ended rows = refl
demand_hidden brought (Rekey stem terms) ended rows = rekey-hidden stem ended rows

found-hidden : (stem : List ℕ) (found : Found) (rows : Rows) → found_signals stem found rows ≡ found_signals stem found (all_hidden rows)
found-hidden stem found rows = pass (value_at stem rows) ∙ ap (λ (o : Option CollectionRow). option_map_or (row_found_signals stem found) o []) (sym (value-hidden stem rows))
  where
    pass : (o : Option CollectionRow) → option_map_or (row_found_signals stem found) o [] ≡ option_map_or (row_found_signals stem found) (option_map hidden o) []
    pass None = refl
    pass (Some row) = refl

pub reading_hidden : (reading : Reading) (ended : ReadFate) (rows : Rows) → reading_signals reading ended rows ≡ reading_signals reading ended (all_hidden rows)
reading_hidden Aliases_file ended rows = refl
reading_hidden (Collection_file stem) read.Old rows = found-hidden stem image.Old rows
reading_hidden (Collection_file stem) read.New rows = found-hidden stem image.New rows
reading_hidden (Collection_file stem) read.Other rows = leaving-hidden stem rows
reading_hidden (Collection_file stem) read.ReadFailed rows = refl

pub opening_alone : (brought : Brought) (terms : KeyTerms) (stem : List ℕ) (rows : Rows)
    → (unlock_signals (key_with brought terms) stem rows ≡ []) ⊎ (unlock_signals (key_with brought terms) stem rows ≡ lock_signals stem false)
opening_alone brought terms stem rows = pass (opening_of (key_with brought terms) stem rows)
  where
    pass : (how : Opening) → (opening_signals stem how ≡ []) ⊎ (opening_signals stem how ≡ lock_signals stem false)
    pass ends.Settled = inl refl
    pass ends.Unfit = inl refl
    pass ends.WrongPassword = inl refl
    pass ends.Damaged = inl refl
    pass ends.Opened = inr refl
