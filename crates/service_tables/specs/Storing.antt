-- What an edit of a collection that is stored, or the removal of its file, makes of the collections, by how it ended, and which edits can
-- be stored (docs/SERVICE.md, "Limits").
use Rattle.std.specs.Prelude.{ℕ, Bool, true, false, not, if◌then◌else◌, List, Option, Some, None, Result, Ok, Err}
use Rattle.std.specs.Option.{option_and_then, option_map_or}
use Rattle.kr_base.specs.Attributes.{value_at}
use Rattle.kr_base.specs.declared.attributes.AttrValue.{AttrValue}
use Rattle.kr_base.specs.declared.ids.ItemId.{ItemId}
use Rattle.item_store.specs.declared.fault.ItemFault.{ItemFault}
use Rattle.keyring_seal.specs.declared.content.Content.{Content}
use Rattle.replace_slot.specs.Cell.{Known}
use Rattle.collection_store.specs.Changes.{content_changed}
use Rattle.collection_store.specs.State.{Held}
use Rattle.collection_store.specs.Storable.{answer_of, storable}
use Rattle.collection_store.specs.declared.change.Change.{Change}
use Rattle.collection_store.specs.declared.change.Change.TheVariants as change
use Rattle.collection_store.specs.declared.change.Changed.{Changed}
use Rattle.collection_store.specs.declared.change.Changed.TheVariants as changes
use Rattle.collection_table.specs.Entries.{changed, without}
use Rattle.collection_table.specs.Rows.{CollectionRow, Rows, is_full, perhaps_removed, perhaps_stored, room_in, stored}
use Rattle.service_tables.specs.Sound.{AreAttributeTypes, AreItemTypes, AreSecretTypes, IsTypedText}
use Rattle.service_tables.specs.declared.fate.StoreFate.{StoreFate}
use Rattle.service_tables.specs.declared.fate.StoreFate.TheVariants as fate

-- what a request brings besides its call: its moment, and the value of the secret in its call
pub record Brought : Type 0 where
  pub now : ℕ
  pub value : List ℕ

-- What a call makes of the content of an unlocked collection. The value of a secret isn't in here: it is the one that the request
-- brings, so no row of the table of calls sees it.
pub data Edit : Type 0 where
  -- a new item; or the item of the least number with exactly these attributes gets the label, the secret and the content type
  Add_item : (label : List ℕ) → (attributes : List (List ℕ × AttrValue)) → (content : List ℕ) → (replace : Bool) → Edit
  -- an item gets another secret
  Set_secret : (item : ItemId) → (content : List ℕ) → Edit
  -- an item is removed
  Remove_item : (item : ItemId) → Edit
  -- an item gets another label
  Set_label : (item : ItemId) → (label : List ℕ) → Edit
  -- an item gets other attributes
  Set_attributes : (item : ItemId) → (attributes : List (List ℕ × AttrValue)) → Edit
  -- the collection gets another label
  Set_name : (label : List ℕ) → Edit

-- an edit as a change of a collection, with the value that the request brings
abbrev pub change_of : List ℕ → Edit → Change
change_of value (Add_item label attributes content replace) = change.Add label attributes value content replace
change_of value (Set_secret item content) = change.SetSecret item value content
change_of value (Remove_item item) = change.Remove item
change_of value (Set_label item label) = change.SetLabel item label
change_of value (Set_attributes item attributes) = change.SetAttributes item attributes
change_of value (Set_name label) = change.SetName label

-- what an edit brings has its types
abbrev pub AreEditTypes : List ℕ → Edit → Type 0
AreEditTypes value (Add_item label attributes content replace) = AreItemTypes label attributes × AreSecretTypes value content
AreEditTypes value (Set_secret item content) = AreSecretTypes value content
AreEditTypes value (Remove_item item) = Unit {0}
AreEditTypes value (Set_label item label) = IsTypedText label
AreEditTypes value (Set_attributes item attributes) = AreAttributeTypes attributes
AreEditTypes value (Set_name label) = IsTypedText label

-- ---- what can be stored

-- whether no item that was made is one too many
abbrev pub has_place : Changed → Rows → Bool
has_place (changes.Made item) rows = not (is_full rows)
has_place (changes.Changed item) rows = true
has_place (changes.Removed item) rows = true
has_place changes.Named rows = true

-- the item that was made, changed or removed, if it was one
abbrev pub item_in : Changed → Option ItemId
item_in (changes.Made item) = Some item
item_in (changes.Changed item) = Some item
item_in (changes.Removed item) = Some item
item_in changes.Named = None

-- an answer, unless its item is one too many
abbrev pub placed_answer : Changed → Rows → Option Changed
placed_answer answer rows = if has_place answer rows then Some answer else None

-- the same, if there is an answer
abbrev pub placed : {E : Type 0} → Rows → Result Changed E → Option Changed
placed rows (Ok answer) = placed_answer answer rows
placed rows (Err fault) = None

-- what a change of the collection of a stem would do, whatever the length of its file is; None if the collection is locked, the change
-- can't be made, or it makes an item too many
abbrev pub answered_at : List ℕ → Change → ℕ → Rows → Option Changed
answered_at stem change now rows =
    option_and_then
    (λ (row : CollectionRow). option_and_then (λ (held : Held). placed rows (answer_of (content_changed change now row.clear held.rows))) row.held)
    (value_at stem rows)

-- the same, if the file of the changed collection keeps within its limits
abbrev pub storable_at : List ℕ → Change → ℕ → Rows → Option Changed
storable_at stem change now rows =
    option_and_then
    (λ (row : CollectionRow). option_and_then (λ (held : Held). placed rows (storable change now (room_in rows) row.file row.clear held)) row.held)
    (value_at stem rows)

-- the same for an edit
abbrev pub storable_edit : Brought → Rows → List ℕ → Edit → Option Changed
storable_edit brought rows stem edit = storable_at stem (change_of brought.value edit) brought.now rows

-- ---- what becomes of a collection

-- a collection after its changed content was to be stored, by how that ended
abbrev pub row_after : StoreFate → Held → CollectionRow → Result (Content × Changed) ItemFault → CollectionRow
row_after fate.Stored held row (Ok made) = stored made.0 held.key held.vector
row_after fate.Unsure held row (Ok made) = perhaps_stored made.0 held.key held.vector row
row_after fate.Before held row (Ok made) = row
row_after some held row (Err fault) = row

-- a collection that is asked to store a change; nothing is asked of one that is locked
abbrev pub row_changed : Change → ℕ → StoreFate → CollectionRow → CollectionRow
row_changed change now fate row = option_map_or (λ (held : Held). row_after fate held row (content_changed change now row.clear held.rows)) row.held row

-- the collections after a change of the one of a stem was to be stored
abbrev pub rows_stored : List ℕ → Change → ℕ → StoreFate → Rows → Rows
rows_stored stem change now fate rows = changed stem (row_changed change now fate) rows

-- how a removal ended that was done, or that may have been done
abbrev pub fate_by : Bool → StoreFate
fate_by true = fate.Stored
fate_by false = fate.Unsure

-- a collection that is unlocked after its file was to be removed, by how that ended; one whose file was removed is taken away next
abbrev pub row_erased : StoreFate → CollectionRow → CollectionRow
row_erased fate.Stored row = record { file = Known None; clear = row.clear; other = None; held = None }
row_erased fate.Before row = row
row_erased fate.Unsure row = perhaps_removed row

-- the collections after the file of the one of a stem was to be removed, by how that ended
abbrev pub rows_erased : List ℕ → StoreFate → Rows → Rows
rows_erased stem fate.Stored rows = without stem rows
rows_erased stem fate.Before rows = rows
rows_erased stem fate.Unsure rows = changed stem perhaps_removed rows
