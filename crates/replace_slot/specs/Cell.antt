-- A file that is replaced whole (docs/DECISIONS.md, "What a crash claim rests on").
use Rattle.std.specs.Prelude.{◌≡◌, ℕ, ◌⊎◌, max, length, List, Option, None, Some}
use Rattle.std.specs.Option.{option_map_or}
use Rattle.kr_outside.specs.RenameDisk.{Image}
use Rattle.kr_outside.specs.declared.slot.DeviceCall.{DeviceCall}
use Rattle.kr_outside.specs.declared.slot.DeviceCall.TheVariants.{PutTemp, SyncTemp, SyncFolder, Read}

-- what is known of a file: its image, or two of which it has one
pub data File : Type 0 where
  Known : (image : Image) → File
  Doubt : (old new : Image) → File

-- the image is known, whichever it is
abbrev pub IsKnown : File → Type 0
IsKnown (Known image) = Unit {0}
IsKnown (Doubt old new) = ⊥

-- the image is known, and is a file
abbrev pub HasFile : File → Type 0
HasFile (Known None) = ⊥
HasFile (Known (Some bytes)) = Unit {0}
HasFile (Doubt old new) = ⊥

-- the known image, or the older one of the two
abbrev pub old_image : File → Image
old_image (Known image) = image
old_image (Doubt old new) = old

-- the known image, or the newer one of the two
abbrev pub new_image : File → Image
new_image (Known image) = image
new_image (Doubt old new) = new

-- the image is known, and has this property
abbrev pub IsKnownImage : (Image → Type 0) → File → Type 0
IsKnownImage Holds (Known image) = Holds image
IsKnownImage Holds (Doubt old new) = ⊥

-- the image is known, and is a file whose bytes have this property
abbrev pub IsKnownFile : (List ℕ → Type 0) → File → Type 0
IsKnownFile Holds (Known None) = ⊥
IsKnownFile Holds (Known (Some bytes)) = Holds bytes
IsKnownFile Holds (Doubt old new) = ⊥

-- these images, and no others
abbrev pub IsOneOf : File → Image → Type 0
IsOneOf (Known image) left = left ≡ image
IsOneOf (Doubt old new) left = (left ≡ old) ⊎ (left ≡ new)

-- a crash leaves one of the file's images
abbrev pub LeavesFile : File → (Image → Type 0) → Type 0
LeavesFile file outcomes = (left : Image) → outcomes left → IsOneOf file left

-- the number of bytes of an image, 0 for no file
abbrev pub length_of : Image → ℕ
length_of image = option_map_or length image 0

-- the length of the longest image
abbrev pub longest_of : File → ℕ
longest_of (Known image) = length_of image
longest_of (Doubt old new) = max (length_of old) (length_of new)

-- a cell as contracts see it: its slot, and what is known of the file
pub record CellState (S : Type 0) : Type 0 where
  pub slot : S
  pub file : File

-- the file of a cell with this image, and perhaps a newer one that it may have instead
abbrev pub file_of : Image → Option Image → File
file_of image None = Known image
file_of image (Some newer) = Doubt image newer

-- the new file couldn't be prepared: one of the two calls that write the temporary file failed
abbrev pub FailedBefore : Option DeviceCall → Type 0
FailedBefore failed = (failed ≡ Some PutTemp) ⊎ (failed ≡ Some SyncTemp)

-- the call that changes what the name stands for failed; or it succeeded, and the sync of the folder that
-- follows it failed
abbrev pub FailedAfter : DeviceCall → Type 0 → Option DeviceCall → Type 0
FailedAfter change done failed = (failed ≡ Some change) ⊎ ((failed ≡ Some SyncFolder) × done)

-- one of the two calls that end a doubt failed
abbrev pub FailedRead : Option DeviceCall → Type 0
FailedRead failed = (failed ≡ Some SyncFolder) ⊎ (failed ≡ Some Read)
