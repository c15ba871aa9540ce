-- A slot and a folder that never fail.
use Rattle.std.specs.Prelude.{ℕ, List, None, Some, Option, Bool, cond}
use Rattle.kr_outside.specs.RenameDisk.{Image}
use Rattle.kr_outside.specs.declared.slot.Seen.{Seen}
use Rattle.kr_memory_disk.specs.declared.files.MemoryFile.{MemoryFile}

-- the bytes, if they are there
abbrev pub image_if : Bool → List ℕ → Image
image_if is_there bytes = cond is_there (Some bytes) None

-- a slot: what the name stands for, the temporary file if there is one, how many bytes of a file it
-- keeps, and what the last read returned
pub record SteadySlotState : Type 0 where
  pub image : Image
  pub temporary : Image
  pub room : ℕ
  pub answered : Option Seen

-- the name takes this temporary file, if there is one
abbrev pub with_temporary : Image → SteadySlotState → SteadySlotState
with_temporary None slot = slot
with_temporary (Some bytes) slot =
    record { image = Some bytes; temporary = None; room = slot.room; answered = slot.answered }

-- the slot after a rename
abbrev pub renamed : SteadySlotState → SteadySlotState
renamed slot = with_temporary slot.temporary slot

-- a folder: its files, the room of its slots, and the names of which slots were made, newest first
pub record SteadyFolderState : Type 0 where
  pub files : List MemoryFile
  pub room : ℕ
  pub made : List (List ℕ)
