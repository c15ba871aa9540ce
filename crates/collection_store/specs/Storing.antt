-- How a prepared change is stored.
use Rattle.std.specs.Prelude.{◌≡◌, ℕ, List, Option, None, Some, Result, Ok, Err}
use Rattle.std.specs.Option.{option_map}
use Rattle.replace_slot.specs.Cell.{File, Known, Doubt, old_image}
use Rattle.keyring_file.specs.Clear.{ClearPart}
use Rattle.item_store.specs.declared.fault.ItemFault.{ItemFault}
use Rattle.keyring_seal.specs.Arranged.{Row}
use Rattle.collection_store.specs.Preparing.{IsPrepared, MayRefuse}
use Rattle.collection_store.specs.Resting.{finished, undone}
use Rattle.collection_store.specs.State.{IsOpened, Parts, rows_with, shown_of}
use Rattle.keyring_file.specs.ClearText.{HasClear}
use Rattle.collection_store.specs.declared.candidate.Frame.{Frame}
use Rattle.collection_store.specs.declared.change.Changed.{Changed}
use Rattle.collection_store.specs.declared.holding.Open.{Open}
use Rattle.collection_store.specs.declared.preparing.Prepared.{Prepared}
use Rattle.collection_store.specs.declared.refused.ChangeRefused.{ChangeRefused}
use Rattle.collection_store.specs.declared.rest.Rest.{Rest}

-- the key, the vector, the items and the clear part as it is in the file
abbrev pub parts_of : Open → Parts
parts_of open_parts = (open_parts.key, open_parts.vector, open_parts.items, open_parts.written)

-- what is kept once the change is stored
abbrev pub finished_open : Frame → Rest → Open → Open
finished_open frame rest was = record was { key = frame.key; vector = frame.vector; items = finished rest was.items; written = None }

-- what is kept once the change is given up
abbrev pub undone_open : Rest → Open → Open
undone_open rest was = record was { items = undone rest was.items }

-- what a change is stored with, under the current key
abbrev pub frame_for : ℕ → ℕ → ℕ → Open → Frame
frame_for now longest room was = record { time = now; longest = longest; room = room; key = was.key; vector = was.vector }

-- a change of an unlocked collection is prepared
abbrev pub IsPreparedIn : Frame → ClearPart → ClearPart → (List Row → Result (List Row × Changed) ItemFault) → Option Open → Option Open → Prepared → Type 0
IsPreparedIn frame front told made (Some was) (Some next) ready =
    (next ≡ record was { items = next.items }) × IsPrepared frame front (made (rows_with told was.items)) was.items next.items ready
IsPreparedIn frame front told made (Some was) None ready = ⊥
IsPreparedIn frame front told made None next ready = ⊥

-- why it isn't prepared
abbrev pub MayRefuseIn : Frame → ClearPart → ClearPart → (List Row → Result (List Row × Changed) ItemFault) → Option Open → ChangeRefused → Type 0
MayRefuseIn frame front told made (Some was) refused = MayRefuse frame front (made (rows_with told was.items)) refused
MayRefuseIn frame front told made None refused = ⊥

-- the prepared file decrypts to the items that will be kept
pub record IsReady (frame : Frame) (ready : Prepared) (was : Open) : Type 0 where
  pub has : HasClear ready.image ready.next
  pub opened : IsOpened ready.image ready.next frame.key frame.vector (finished ready.rest was.items) ready.next

-- the change is stored, shown and kept
pub record AreStored (frame : Frame) (ready : Prepared) (older : Option ClearPart) (was : Option Open) (file_now : File) (told_now : ClearPart) (newer_now : Option ClearPart) (held_now : Option Open) (answer : Changed) : Type 0 where
  pub is : answer ≡ ready.answer
  pub file : file_now ≡ Known (Some ready.image)
  pub told : told_now ≡ ready.next
  pub newer : newer_now ≡ older
  pub held : held_now ≡ option_map (finished_open frame ready.rest) was

-- the change is given up: everything is as before
pub record AreBefore (ready : Prepared) (old : File) (shown : ClearPart) (older : Option ClearPart) (was : Option Open) (file_now : File) (told_now : ClearPart) (newer_now : Option ClearPart) (held_now : Option Open) : Type 0 where
  pub file : file_now ≡ old
  pub told : told_now ≡ shown
  pub newer : newer_now ≡ older
  pub held : held_now ≡ option_map (undone_open ready.rest) was

-- the change may be stored or not: the collection is locked, and shows what it showed
pub record AreUnsure (ready : Prepared) (old : File) (shown : ClearPart) (was : Option Open) (file_now : File) (told_now : ClearPart) (newer_now : Option ClearPart) (held_now : Option Open) : Type 0 where
  pub file : file_now ≡ Doubt (old_image old) (Some ready.image)
  pub told : told_now ≡ shown_of shown (option_map parts_of was)
  pub newer : newer_now ≡ Some ready.next
  pub held : held_now ≡ None

-- the same answer, without what was changed
abbrev pub without_answer : Result Changed ChangeRefused → Result (Unit {0}) ChangeRefused
without_answer (Ok answer) = Ok tt
without_answer (Err refused) = Err refused
