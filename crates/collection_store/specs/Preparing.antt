-- A prepared change: everything that takes memory is made, and no call of the device has been made.
use Rattle.std.specs.Prelude.{◌≡◌, ℕ, ◌+◌, ◌<◌, ◌≤◌, min, nat_eq, if◌then◌else◌, List, [], ◌∷◌, ◌++◌, length, Option, None, Some, Result, Ok, Err}
use Rattle.std.specs.List.{AllByRecursion}
use Rattle.std.specs.Map.{keys_of}
use Rattle.std.specs.Option.{option_map}
use Rattle.attribute_hash.specs.Hash.{hashes}
use Rattle.keyring_file.specs.Clear.{ClearPart}
use Rattle.keyring_file.specs.ClearText.{HasClear, most_iterations}
use Rattle.keyring_file.specs.declared.area.FullItem.{FullItem}
use Rattle.keyring_file.specs.declared.clear.ClearItem.{ClearItem}
use Rattle.keyring_seal.specs.Arranged.{Row}
use Rattle.keyring_seal.specs.Whole.{most_bytes, sealed}
use Rattle.item_store.specs.Rows.{Row as StoreRow, Rows, row_at}
use Rattle.item_store.specs.declared.fault.ItemFault.{ItemFault}
use Rattle.collection_store.specs.Changes.{content_stored, minor_made}
use Rattle.collection_store.specs.Resting.{finished, undone}
use Rattle.collection_store.specs.State.{IsOpened, ids_of, rows_with}
use Rattle.collection_store.specs.declared.candidate.Frame.{Frame}
use Rattle.collection_store.specs.declared.change.Changed.{Changed}
use Rattle.collection_store.specs.declared.preparing.Prepared.{Prepared}
use Rattle.collection_store.specs.declared.refused.ChangeRefused.{ChangeRefused}
use Rattle.collection_store.specs.declared.refused.ChangeRefused.TheVariants as refused

-- an item of the clear part with the full item, if there is one
abbrev pub with_item : ClearItem → Option FullItem → List Row
with_item item None = []
with_item item (Some full) = (item, full) ∷ []

-- the items of the clear part, each with the full item that has its id; one without such an item is left out
abbrev pub looked : List ClearItem → Rows → List Row
looked [] items = []
looked (item ∷ more) items = with_item item (option_map (λ (row : StoreRow). row.item) (row_at item.id.0 items)) ++ looked more items

-- the first of these items of the clear part with the full item, if that is the one with its id
abbrev pub lent_at : List ClearItem → ℕ → FullItem → List Row
lent_at [] id full = []
lent_at (item ∷ more) id full = if nat_eq item.id.0 id then (item, full) ∷ [] else []

-- the items of the clear part that are left after it
abbrev pub left_after : List ClearItem → ℕ → List ClearItem
left_after [] id = []
left_after (item ∷ more) id = if nat_eq item.id.0 id then more else item ∷ more

-- in each row the hashes are those of the item's attributes
abbrev pub AreHashed : List Row → Type 0
AreHashed rows = AllByRecursion (λ (row : Row). row.0.hashed ≡ hashes row.1.attributes) rows

-- the clear part and the items belong to one content that can be stored
pub record IsInStep (told : ClearPart) (items : Rows) : Type 0 where
  pub ids : ids_of told.items ≡ keys_of items
  pub hashed : AreHashed (rows_with told items)
  pub iterations : told.iterations ≤ most_iterations

-- the clear part that is stored with these items
abbrev pub next_of : Frame → ClearPart → List ClearItem → ClearPart
next_of frame told items = record told { modified = frame.time; items = items; minor = minor_made told.minor items }

-- how long the file may be
abbrev pub most_in : Frame → ℕ
most_in frame = min most_bytes (frame.longest + frame.room)

-- `made` is the rows after a change, with its answer, or why it can't be made; `front` is the clear part without its items
module _ (frame : Frame) (front : ClearPart) (made : Result (List Row × Changed) ItemFault) where
  -- the change is made: its file is ready, and the items are those of the file once the rest is done
  pub record IsPrepared (old new : Rows) (ready : Prepared) : Type 0 where
    pub rows : List Row
    pub is_made : made ≡ Ok (rows, ready.answer)
    pub image : ready.image ≡ sealed (content_stored frame.time front rows) frame.key frame.vector
    pub within : length ready.image ≤ most_in frame
    pub clear : ready.next ≡ (content_stored frame.time front rows).clear
    pub items : rows_with ready.next (finished ready.rest new) ≡ rows
    pub undone : undone ready.rest new ≡ old
    pub has : HasClear ready.image ready.next
    pub opened : IsOpened ready.image ready.next frame.key frame.vector (finished ready.rest new) ready.next

  -- the file of the changed content would be longer than it may be
  pub record IsOver : Type 0 where
    pub rows : List Row
    pub answer : Changed
    pub is_made : made ≡ Ok (rows, answer)
    pub over : most_in frame < length (sealed (content_stored frame.time front rows) frame.key frame.vector)

  -- why a change isn't prepared
  abbrev pub MayRefuse : ChangeRefused → Type 0
  MayRefuse (refused.Item fault) = made ≡ Err fault
  MayRefuse refused.TooLarge = IsOver
  MayRefuse refused.FaultBefore = ⊥
  MayRefuse refused.FaultUnsure = ⊥
  MayRefuse refused.OutOfMemory = Unit {0}
