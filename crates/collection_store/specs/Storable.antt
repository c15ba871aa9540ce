-- What a change answers, as far as it is known before the change is prepared.
use Rattle.std.specs.Prelude.{◌≡◌, ℕ, Bool, nat_le, if◌then◌else◌, List, length, Option, None, Some, Result, Ok, Err, IsOk}
use Rattle.std.specs.Option.{is_some}
use Rattle.item_store.specs.Rows.{Rows, first_id, has_just, ids_where, next_id, row_at}
use Rattle.item_store.specs.declared.fault.ItemFault.{ItemFault}
use Rattle.item_store.specs.declared.fault.ItemFault.TheVariants as item_fault
use Rattle.kr_base.specs.declared.attributes.AttrValue.{AttrValue}
use Rattle.keyring_file.specs.Clear.{ClearPart}
use Rattle.keyring_seal.specs.Whole.{sealed}
use Rattle.keyring_seal.specs.declared.content.Content.{Content}
use Rattle.replace_slot.specs.Cell.{File}
use Rattle.collection_store.specs.Changes.{content_changed, within_most}
use Rattle.collection_store.specs.Outcomes.{most_for}
use Rattle.collection_store.specs.State.{Held}
use Rattle.collection_store.specs.declared.change.Change.{Change}
use Rattle.collection_store.specs.declared.change.Change.TheVariants as change
use Rattle.collection_store.specs.declared.change.Changed.{Changed}
use Rattle.collection_store.specs.declared.change.Changed.TheVariants as changed
use Rattle.collection_store.specs.declared.refused.ChangeRefused.{ChangeRefused}
use Rattle.collection_store.specs.declared.refused.ChangeRefused.TheVariants as refused

-- the answer alone, without what is made
abbrev pub answer_of : {A : Type 0} → Result (A × Changed) ItemFault → Result Changed ItemFault
answer_of (Ok made) = Ok made.1
answer_of (Err fault) = Err fault

-- the answer, if the file of the content isn't longer than it may be
abbrev pub sized : ℕ → Held → Result (Content × Changed) ItemFault → Result Changed ChangeRefused
sized most held (Ok made) = if nat_le (length (sealed made.0 held.key held.vector)) most then Ok made.1 else Err refused.TooLarge
sized most held (Err fault) = Err (refused.Item fault)

-- what a change of an unlocked collection answers if it is stored, or why it isn't; all files together may grow by `room` bytes
abbrev pub storable : Change → ℕ → ℕ → File → ClearPart → Held → Result Changed ChangeRefused
storable change now room file clear held = sized (most_for room file) held (content_changed change now clear held.rows)

-- what a call returned is what was known before, except for a fault or lack of memory
abbrev pub EndsAs : Result Changed ChangeRefused → Result Changed ChangeRefused → Type 0
EndsAs known (Ok answer) = known ≡ Ok answer
EndsAs known (Err (refused.Item fault)) = known ≡ Err (refused.Item fault)
EndsAs known (Err refused.TooLarge) = known ≡ Err refused.TooLarge
EndsAs known (Err refused.FaultBefore) = IsOk known
EndsAs known (Err refused.FaultUnsure) = IsOk known
EndsAs known (Err refused.OutOfMemory) = Unit {0}

-- ---- the same by the items in the form of `item_store`

-- the answer of a change of an item, if it is there
abbrev pub answer_at : ℕ → Rows → Result Changed ItemFault → Result Changed ItemFault
answer_at id items answer = if is_some (row_at id items) then answer else Err item_fault.NoItem

-- the answer of a new item with an id, if one is left
abbrev pub answer_new : Option ℕ → List (List ℕ × AttrValue) → Result Changed ItemFault
answer_new None attributes = Err item_fault.IdsSpent
answer_new (Some id) attributes = within_most attributes (changed.Made (record { 0 = id }))

-- the answer of a new item, or of one that replaces an equal one
abbrev pub answer_added : Option ℕ → List (List ℕ × AttrValue) → Rows → Result Changed ItemFault
answer_added None attributes items = answer_new (next_id items) attributes
answer_added (Some id) attributes items = within_most attributes (changed.Changed (record { 0 = id }))

-- the id of an item with exactly these attributes, if the call replaces it
abbrev pub id_replaced : Bool → List (List ℕ × AttrValue) → Rows → Option ℕ
id_replaced replace attributes items = if replace then first_id (ids_where (has_just attributes) items) else None

-- what a change answers, or why it can't be made
abbrev pub answer_in : Change → Rows → Result Changed ItemFault
answer_in (change.Add label attributes value content replace) items = answer_added (id_replaced replace attributes items) attributes items
answer_in (change.SetSecret id value content) items = answer_at id.0 items (Ok (changed.Changed id))
answer_in (change.SetLabel id label) items = answer_at id.0 items (Ok (changed.Changed id))
answer_in (change.SetAttributes id attributes) items = answer_at id.0 items (within_most attributes (changed.Changed id))
answer_in (change.Remove id) items = answer_at id.0 items (Ok (changed.Removed id))
answer_in (change.SetName label) items = Ok changed.Named
