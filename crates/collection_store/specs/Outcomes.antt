-- What a call leaves of a collection and its file (docs/DECISIONS.md, "What a crash claim rests on").
use Rattle.std.specs.Prelude.{◌≡◌, ℕ, ◌+◌, ◌<◌, ◌⊎◌, min, List, length, None, Some, Result, Ok, Err, IsErrOf}
use Rattle.item_store.specs.declared.fault.ItemFault.{ItemFault}
use Rattle.kr_outside.specs.RenameDisk.{Image}
use Rattle.replace_slot.specs.Cell.{CellState, File, Known, Doubt, longest_of, old_image}
use Rattle.keyring_seal.specs.Arranged.{rows}
use Rattle.keyring_seal.specs.Whole.{most_bytes, sealed}
use Rattle.keyring_seal.specs.declared.content.Content.{Content}
use Rattle.collection_store.specs.Changes.{content_changed}
use Rattle.collection_store.specs.State.{CollectionState, Held}
use Rattle.collection_store.specs.declared.change.Change.{Change}
use Rattle.collection_store.specs.declared.change.Changed.{Changed}
use Rattle.collection_store.specs.declared.refused.ChangeRefused.{ChangeRefused}
use Rattle.collection_store.specs.declared.refused.ChangeRefused.TheVariants as refused
use Rattle.collection_store.specs.declared.refused.CreateRefused.{CreateRefused}
use Rattle.collection_store.specs.declared.refused.CreateRefused.TheVariants as create

-- the content is stored: its file is known, its clear part is shown, and the collection is unlocked with the key and the vector
pub record IsStored {S : Type 0} (content : Content) (key vector : List ℕ) (new : CollectionState S) : Type 0 where
  pub file : new.file ≡ Known (Some (sealed content key vector))
  pub clear : new.clear ≡ content.clear
  pub other : new.other ≡ None
  pub held : new.held ≡ Some (record { key = key; vector = vector; rows = rows content })

-- the content may be stored or not: the collection is locked, its file in doubt, and the clear part of the content is the other one
pub record IsUnsure {S : Type 0} (content : Content) (key vector : List ℕ) (old new : CollectionState S) : Type 0 where
  pub file : new.file ≡ Doubt (old_image old.file) (Some (sealed content key vector))
  pub clear : new.clear ≡ old.clear
  pub other : new.other ≡ Some content.clear
  pub locked : new.held ≡ None

-- everything is as before, except perhaps the slot
pub record IsSame {S : Type 0} (old new : CollectionState S) : Type 0 where
  pub file : new.file ≡ old.file
  pub clear : new.clear ≡ old.clear
  pub other : new.other ≡ old.other
  pub held : new.held ≡ old.held

-- how long the new file may be, if all files together may grow by `room` bytes
abbrev pub most_for : ℕ → File → ℕ
most_for room file = min most_bytes (longest_of file + room)

-- the image is the one that was known, or the file of the content
abbrev pub IsOldOrSealed : File → Content → List ℕ → List ℕ → Image → Type 0
IsOldOrSealed file content key vector image = (image ≡ old_image file) ⊎ (image ≡ Some (sealed content key vector))

module _ (change : Change) (now : ℕ) {S : Type 0} (old : CollectionState S) (held : Held) where
  -- what the change comes to
  abbrev pub made_of : Result (Content × Changed) ItemFault
  made_of = content_changed change now old.clear held.rows

  -- the change was made and stored, with this answer
  pub record IsChanged (new : CollectionState S) (answer : Changed) : Type 0 where
    pub content : Content
    pub made : made_of ≡ Ok (content, answer)
    pub stored : IsStored content held.key held.vector new

  -- the change was made, and may be stored or not
  pub record MayBeChanged (new : CollectionState S) : Type 0 where
    pub content : Content
    pub answer : Changed
    pub made : made_of ≡ Ok (content, answer)
    pub unsure : IsUnsure content held.key held.vector old new

  -- the change can be made, but its file would be too large
  pub record IsTooLarge (room : ℕ) : Type 0 where
    pub content : Content
    pub answer : Changed
    pub made : made_of ≡ Ok (content, answer)
    pub over : most_for room old.file < length (sealed content held.key held.vector)

  -- the image is the file of the changed content
  pub record IsNewImage (image : Image) : Type 0 where
    pub content : Content
    pub answer : Changed
    pub made : made_of ≡ Ok (content, answer)
    pub is : image ≡ Some (sealed content held.key held.vector)

  -- the image is the one that was known, or the file of the changed content
  abbrev pub IsOldOrNew : Image → Type 0
  IsOldOrNew image = (image ≡ old_image old.file) ⊎ IsNewImage image

-- a call of the device failed
abbrev pub IsFault : {A : Type 0} → Result A ChangeRefused → Type 0
IsFault result = IsErrOf result refused.FaultBefore ⊎ IsErrOf result refused.FaultUnsure

-- ---- what `create` returns: what is handed back in each case

module _ {S : Type 0} where
  -- too large
  abbrev pub IfTooLarge : Result (CollectionState S) (CreateRefused S) → (CellState S → Type 0) → Type 0
  IfTooLarge (Ok made) Holds = Unit {0}
  IfTooLarge (Err (create.TooLarge cell)) Holds = Holds cell
  IfTooLarge (Err (create.FaultBefore cell)) Holds = Unit {0}
  IfTooLarge (Err (create.FaultUnsure made)) Holds = Unit {0}
  IfTooLarge (Err (create.OutOfMemory cell)) Holds = Unit {0}

  -- too large, or no memory was left
  abbrev pub IsTooLargeOrNoMemory : Result (CollectionState S) (CreateRefused S) → Type 0
  IsTooLargeOrNoMemory (Ok made) = ⊥
  IsTooLargeOrNoMemory (Err (create.TooLarge cell)) = Unit {0}
  IsTooLargeOrNoMemory (Err (create.FaultBefore cell)) = ⊥
  IsTooLargeOrNoMemory (Err (create.FaultUnsure made)) = ⊥
  IsTooLargeOrNoMemory (Err (create.OutOfMemory cell)) = Unit {0}

  -- the file couldn't be written
  abbrev pub IfFaultBefore : Result (CollectionState S) (CreateRefused S) → (CellState S → Type 0) → Type 0
  IfFaultBefore (Ok made) Holds = Unit {0}
  IfFaultBefore (Err (create.TooLarge cell)) Holds = Unit {0}
  IfFaultBefore (Err (create.FaultBefore cell)) Holds = Holds cell
  IfFaultBefore (Err (create.FaultUnsure made)) Holds = Unit {0}
  IfFaultBefore (Err (create.OutOfMemory cell)) Holds = Unit {0}

  -- the file may have been written or not
  abbrev pub IfFaultUnsure : Result (CollectionState S) (CreateRefused S) → (CollectionState S → Type 0) → Type 0
  IfFaultUnsure (Ok made) Holds = Unit {0}
  IfFaultUnsure (Err (create.TooLarge cell)) Holds = Unit {0}
  IfFaultUnsure (Err (create.FaultBefore cell)) Holds = Unit {0}
  IfFaultUnsure (Err (create.FaultUnsure made)) Holds = Holds made
  IfFaultUnsure (Err (create.OutOfMemory cell)) Holds = Unit {0}

  -- no memory was left
  abbrev pub IfNoMemory : Result (CollectionState S) (CreateRefused S) → (CellState S → Type 0) → Type 0
  IfNoMemory (Ok made) Holds = Unit {0}
  IfNoMemory (Err (create.TooLarge cell)) Holds = Unit {0}
  IfNoMemory (Err (create.FaultBefore cell)) Holds = Unit {0}
  IfNoMemory (Err (create.FaultUnsure made)) Holds = Unit {0}
  IfNoMemory (Err (create.OutOfMemory cell)) Holds = Holds cell

  -- a call of the device failed
  abbrev pub IsCreateFault : Result (CollectionState S) (CreateRefused S) → Type 0
  IsCreateFault (Ok made) = ⊥
  IsCreateFault (Err (create.TooLarge cell)) = ⊥
  IsCreateFault (Err (create.FaultBefore cell)) = Unit {0}
  IsCreateFault (Err (create.FaultUnsure made)) = Unit {0}
  IsCreateFault (Err (create.OutOfMemory cell)) = ⊥

  -- the slot of what is handed back
  abbrev pub slot_of : Result (CollectionState S) (CreateRefused S) → S
  slot_of (Ok made) = made.slot
  slot_of (Err (create.TooLarge cell)) = cell.slot
  slot_of (Err (create.FaultBefore cell)) = cell.slot
  slot_of (Err (create.FaultUnsure made)) = made.slot
  slot_of (Err (create.OutOfMemory cell)) = cell.slot
