-- What was loaded, as contracts see it.
use Rattle.std.specs.Prelude.{◌≡◌, ℕ, ◌⊎◌, List, [], ◌∷◌, ◌++◌, length, map, All, Contains, Option, None, Some, IfSome, Bool, IsTrue, ◌<◌}
use Rattle.kr_outside.specs.Faults.{Rose}
use Rattle.kr_outside.specs.RenameDisk.{Image, Temporary, Unknown, Only}
use Rattle.kr_outside.specs.declared.slot.DeviceCall.{DeviceCall}
use Rattle.kr_outside.specs.declared.slot.DeviceCall.TheVariants.{Size, Read, SyncFolder}
use Rattle.keyring_file.specs.Clear.{ClearPart}
use Rattle.replace_slot.specs.Cell.{CellState, File, Known, Doubt}
use Rattle.folder_store.specs.Opened.{RingRow}
use Rattle.folder_store.specs.Names.{IsRingName, IsLoadName}
use Rattle.folder_store.specs.declared.opening.LeftAlone.{LeftAlone}

-- a listed collection: its stem, the cell of its file, and the clear part
pub record RingState (S : Type 0) : Type 0 where
  pub stem : List ℕ
  pub cell : CellState S
  pub clear : ClearPart

-- the file of the aliases: its cell, and the aliases
pub record AliasState (S : Type 0) : Type 0 where
  pub cell : CellState S
  pub pairs : List (List ℕ × List ℕ)

-- the image is a file of more bytes than this
abbrev pub IsLonger : ℕ → Image → Type 0
IsLonger most None = ⊥
IsLonger most (Some bytes) = most < length bytes

-- the bytes of a file that is known to exist
abbrev pub bytes_of : File → List ℕ
bytes_of (Known None) = []
bytes_of (Known (Some bytes)) = bytes
bytes_of (Doubt old new) = []

-- a listed collection without its slot
abbrev pub row_of : {S : Type 0} → RingState S → RingRow
row_of ring = record { stem = ring.stem; clear = ring.clear; image = bytes_of ring.cell.file }

-- all listed collections
abbrev pub rows_of : {S : Type 0} → List (RingState S) → List RingRow
rows_of rings = map row_of rings

-- A slot that a load made for a name and looked at. It is honest exactly if the folder is, and steady exactly
-- if the folder is. In an honest folder the name still stands for the same image, no crash might have left
-- another at any moment of the slot's clock, and its temporary file wasn't touched.
pub record IsAsFound {S : Type 0} (seen : S → Image) (temporary : S → Temporary) (may_leave : S → Image → Type 0) (left_since : S → ℕ → Image → Type 0) (is_honest is_steady : S → Bool) (honest steady : Bool) (image : Image) (slot : S) : Type 0 where
  pub as_honest : is_honest slot ≡ honest
  pub as_steady : is_steady slot ≡ steady
  pub same : IsTrue honest → seen slot ≡ image
  pub crash : IsTrue honest → Only image (may_leave slot)
  pub any_moment : IsTrue honest → Only image (left_since slot 0)
  pub untouched : IsTrue honest → temporary slot ≡ Unknown

-- no slot was made, or one for this name
abbrev pub MakesOneAtMost : List ℕ → List (List ℕ) → List (List ℕ) → Type 0
MakesOneAtMost name old new = (new ≡ old) ⊎ (new ≡ name ∷ old)

-- each slot that was made for these names, the newest first, is returned with a listed collection or with a
-- file that was left alone, and is as it was found
pub data HandsBack {S : Type 0} (found : Image → S → Type 0) (images : List ℕ → Image) : List (List ℕ) → List (RingState S) → List (LeftAlone S) → Type 0 where
  nothing : HandsBack found images [] [] []
  with_ring : (made : List (List ℕ)) (rings : List (RingState S)) (left : List (LeftAlone S)) (name : List ℕ) (ring : RingState S)
      → HandsBack found images made rings left → IsRingName name ring.stem → found (images name) ring.cell.slot
      → HandsBack found images (name ∷ made) (rings ++ ring ∷ []) left
  alone : (made : List (List ℕ)) (rings : List (RingState S)) (left : List (LeftAlone S)) (name : List ℕ) (file : LeftAlone S)
      → HandsBack found images made rings left → IsRingName name file.stem → found (images name) file.slot
      → HandsBack found images (name ∷ made) rings (left ++ file ∷ [])

-- Each slot that was made for these names, the newest first, is returned as it was found: those that are returned with
-- a listed collection or with a file that was left alone, and the one at which the load stopped, if it had made one
-- that isn't among them. That one is of a keyring file, or of the file of the aliases.
pub data ReturnsAll {S : Type 0} (found : Image → S → Type 0) (images : List ℕ → Image) : List (List ℕ) → List (RingState S) → List (LeftAlone S) → Option S → Type 0 where
  between_files : (made : List (List ℕ)) (rings : List (RingState S)) (left : List (LeftAlone S))
      → HandsBack found images made rings left → ReturnsAll found images made rings left None
  at_a_file : (made : List (List ℕ)) (rings : List (RingState S)) (left : List (LeftAlone S)) (name : List ℕ) (slot : S)
      → HandsBack found images made rings left → IsLoadName name → found (images name) slot
      → ReturnsAll found images (name ∷ made) rings left (Some slot)

-- the call that failed is one of the three that a load makes on a slot
abbrev pub IsLook : Option DeviceCall → Type 0
IsLook failed = (failed ≡ Some SyncFolder) ⊎ (failed ≡ Some Size) ⊎ (failed ≡ Some Read)

-- the folder isn't steady, and a slot that was made in this call failed while its file was looked at: its
-- count of faults rose from 0, and it is as it was found
pub record HasFailedSlot {S : Type 0} (found : Image → S → Type 0) (images : List ℕ → Image) (made : List (List ℕ)) (faults : S → ℕ) (failed : S → Option DeviceCall) (steady : Bool) : Type 0 where
  pub name : List ℕ
  pub slot : S
  pub here : Contains made name
  pub as_found : found (images name) slot
  pub rose : Rose 0 (faults slot)
  pub look : IsLook (failed slot)
  pub unsteady : ¬ (IsTrue steady)

-- no slot failed in its last call: none of a listed collection, none of a file that was left alone, and not the one
-- beside them, if there is one
pub record NoneFailed {S : Type 0} (failed : S → Option DeviceCall) (rings : List (RingState S)) (left : List (LeftAlone S)) (beside : Option S) : Type 0 where
  pub listed : All (λ ring. failed ring.cell.slot ≡ None) rings
  pub alone : All (λ file. failed file.slot ≡ None) left
  pub last : IfSome beside (λ slot. failed slot ≡ None)
