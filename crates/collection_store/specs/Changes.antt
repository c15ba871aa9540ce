-- What a change makes of an unlocked collection's content (Secret Service API, interfaces Collection and Item).
use Rattle.std.specs.Prelude.{ℕ, Bool, if◌then◌else◌, List, [], ◌∷◌, ◌++◌, length, Option, None, Some, Result, Ok, Err, filter, map, not, nat_eq, nat_lt}
use Rattle.std.specs.List.{list_all, list_any}
use Rattle.attribute_hash.specs.Hash.{hashes}
use Rattle.item_store.specs.Rows.{Rows, first_id, has_just, ids_where, most_attributes, next_id}
use Rattle.item_store.specs.declared.fault.ItemFault.{ItemFault}
use Rattle.item_store.specs.declared.fault.ItemFault.TheVariants as item_fault
use Rattle.kr_base.specs.Attributes.{is_name}
use Rattle.kr_base.specs.declared.attributes.AttrValue.{AttrValue}
use Rattle.keyring_file.specs.Clear.{ClearPart, plain_content}
use Rattle.keyring_file.specs.declared.clear.ClearItem.{ClearItem}
use Rattle.keyring_seal.specs.Arranged.{Row, of_rows, row_number}
use Rattle.keyring_seal.specs.declared.content.Content.{Content}
use Rattle.collection_store.specs.declared.change.Change.{Change}
use Rattle.collection_store.specs.declared.change.Change.TheVariants as change
use Rattle.collection_store.specs.declared.change.Changed.{Changed}
use Rattle.collection_store.specs.declared.change.Changed.TheVariants as changed

-- ---- rows

-- the rows in the form of `item_store`
abbrev pub store_rows : List Row → Rows
store_rows rows = map (λ (row : Row). (row_number row, record { kind = row.0.kind; item = row.1 })) rows

-- whether there is a row with the id
abbrev pub has_row : ℕ → List Row → Bool
has_row id rows = list_any (λ (row : Row). nat_eq (row_number row) id) rows

-- the rows, with the one with the id changed
abbrev pub rows_changed : ℕ → (Row → Row) → List Row → List Row
rows_changed id change rows = map (λ (row : Row). if nat_eq (row_number row) id then change row else row) rows

-- the rows without the one with the id
abbrev pub rows_without : ℕ → List Row → List Row
rows_without id rows = filter (λ (row : Row). not (nat_eq (row_number row) id)) rows

-- a new item: its type is 0, it has no access entries, and both of its times are now
abbrev pub new_row : ℕ → ℕ → List ℕ → List (List ℕ × AttrValue) → List ℕ → List ℕ → Row
new_row id now label attributes value content = (
  record { id = record { 0 = id }; kind = 0; hashed = hashes attributes; content = content },
  record { label = label; value = value; created = now; modified = now; attributes = attributes; access = [] },
)

-- an item that a new one replaces keeps its id, its type, its attributes, its access entries, and the time when it was created
abbrev pub replaced : ℕ → List ℕ → List ℕ → List ℕ → Row → Row
replaced now label value content row = (record row.0 { content = content }, record row.1 { label = label; value = value; modified = now })

-- an item with another secret
abbrev pub with_secret : ℕ → List ℕ → List ℕ → Row → Row
with_secret now value content row = (record row.0 { content = content }, record row.1 { value = value; modified = now })

-- an item with another label
abbrev pub with_label : ℕ → List ℕ → Row → Row
with_label now label row = (row.0, record row.1 { label = label; modified = now })

-- an item with other attributes
abbrev pub with_attributes : ℕ → List (List ℕ × AttrValue) → Row → Row
with_attributes now attributes row = (record row.0 { hashed = hashes attributes }, record row.1 { attributes = attributes; modified = now })

-- ---- the rows after each change, and its answer; or why it can't be made

-- a call is refused if it brings too many attributes
abbrev pub within_most : {A : Type 0} → List (List ℕ × AttrValue) → A → Result A ItemFault
within_most attributes made = if nat_lt most_attributes (length attributes) then Err item_fault.TooManyAttributes else Ok made

-- a call is refused if there is no item with the id
abbrev pub at_item : {A : Type 0} → ℕ → List Row → Result A ItemFault → Result A ItemFault
at_item id rows made = if has_row id rows then made else Err item_fault.NoItem

-- the least id of an item with exactly these attributes, which the new item replaces if the call says so
abbrev pub equal_id : Bool → List (List ℕ × AttrValue) → List Row → Option ℕ
equal_id replace attributes rows = if replace then first_id (ids_where (has_just attributes) (store_rows rows)) else None

-- a new item, with the greatest id plus 1, or 1
abbrev pub made_new : Option ℕ → ℕ → List ℕ → List (List ℕ × AttrValue) → List ℕ → List ℕ → List Row → Result (List Row × Changed) ItemFault
made_new None now label attributes value content rows = Err item_fault.IdsSpent
made_new (Some id) now label attributes value content rows =
    within_most attributes (rows ++ new_row id now label attributes value content ∷ [], changed.Made (record { 0 = id }))

-- an item that is added, or replaces an equal one
abbrev pub made_added : Option ℕ → ℕ → List ℕ → List (List ℕ × AttrValue) → List ℕ → List ℕ → List Row → Result (List Row × Changed) ItemFault
made_added None now label attributes value content rows = made_new (next_id (store_rows rows)) now label attributes value content rows
made_added (Some id) now label attributes value content rows =
    within_most attributes (rows_changed id (replaced now label value content) rows, changed.Changed (record { 0 = id }))

-- the rows after a change, and its answer; or why it can't be made
abbrev pub rows_made : Change → ℕ → List Row → Result (List Row × Changed) ItemFault
rows_made (change.Add label attributes value content replace) now rows = made_added (equal_id replace attributes rows) now label attributes value content rows
rows_made (change.SetSecret id value content) now rows = at_item id.0 rows (Ok (rows_changed id.0 (with_secret now value content) rows, changed.Changed id))
rows_made (change.SetLabel id label) now rows = at_item id.0 rows (Ok (rows_changed id.0 (with_label now label) rows, changed.Changed id))
rows_made (change.SetAttributes id attributes) now rows =
    at_item id.0 rows (within_most attributes (rows_changed id.0 (with_attributes now attributes) rows, changed.Changed id))
rows_made (change.Remove id) now rows = at_item id.0 rows (Ok (rows_without id.0 rows, changed.Removed id))
rows_made (change.SetName label) now rows = Ok (rows, changed.Named)

-- ---- the content that is stored

-- the label of the collection after a change
abbrev pub name_made : Change → List ℕ → List ℕ
name_made (change.Add label attributes value content replace) name = name
name_made (change.SetSecret id value content) name = name
name_made (change.SetLabel id label) name = name
name_made (change.SetAttributes id attributes) name = name
name_made (change.Remove id) name = name
name_made (change.SetName label) name = label

-- the minor version of a file: 1 as soon as a content type isn't `text/plain`, and from then on
abbrev pub minor_made : ℕ → List ClearItem → ℕ
minor_made minor items = if list_all (λ (item : ClearItem). is_name plain_content item.content) items then minor else 1

-- the content with this front and these rows, stored now; the front is the clear part without its items
abbrev pub content_stored : ℕ → ClearPart → List Row → Content
content_stored now front rows = of_rows (record front { modified = now; minor = minor_made front.minor (map (λ (row : Row). row.0) rows) }) rows

-- the same, as the content that is stored
abbrev pub as_content : ℕ → ClearPart → Result (List Row × Changed) ItemFault → Result (Content × Changed) ItemFault
as_content now front (Ok made) = Ok (content_stored now front made.0, made.1)
as_content now front (Err fault) = Err fault

-- the content that a change stores, and its answer; or why it can't be made
abbrev pub content_changed : Change → ℕ → ClearPart → List Row → Result (Content × Changed) ItemFault
content_changed change now clear rows = as_content now (record clear { name = name_made change clear.name }) (rows_made change now rows)

-- the content that a change of the password stores: the salt and the iterations are those of the new key
abbrev pub content_rekeyed : ℕ → List ℕ → ℕ → ClearPart → List Row → Content
content_rekeyed now salt iterations clear rows = content_stored now (record clear { salt = salt; iterations = iterations }) rows

-- the content of a new collection
abbrev pub content_created : ℕ → List ℕ → List ℕ → ℕ → Content
content_created now label salt iterations = of_rows (record {
  name = label;
  created = now;
  modified = now;
  flags = 0;
  timeout = 0;
  iterations = iterations;
  salt = salt;
  items = [];
  minor = 0;
}) []
