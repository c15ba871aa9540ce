-- The rename disk: a name, its temporary file, and what a crash may leave of the name
-- (docs/DECISIONS.md, "What a crash claim rests on").
use Rattle.std.specs.Prelude.{◌≡◌, ℕ, ◌<◌, ◌≤◌, ◌⊎◌, List, take, length, Option, None, Some, IsSome}
use Rattle.std.specs.Option.{option_map}
use Rattle.kr_outside.specs.declared.slot.Seen.{Seen}
use Rattle.kr_outside.specs.declared.slot.Seen.TheVariants.{Missing, Whole, Longer}

-- what a name stands for: the bytes of a file, or no file
abbrev pub Image : Type 0
Image = Option (List ℕ)

-- the temporary file of a name: nothing is known of it; it has these bytes, of which a crash may
-- leave others; it has these bytes, and a crash leaves them
pub data Temporary : Type 0 where
  Unknown : Temporary
  Unsynced : (bytes : List ℕ) → Temporary
  Synced : (bytes : List ℕ) → Temporary

-- the temporary file after a sync that succeeded
abbrev pub synced : Temporary → Temporary
synced Unknown = Unknown
synced (Unsynced bytes) = Synced bytes
synced (Synced bytes) = Synced bytes

-- what a read returns, if the name stands for the temporary file
abbrev pub GivesTemporary : Temporary → Image → Type 0
GivesTemporary Unknown image = Unit {0}
GivesTemporary (Unsynced bytes) image = image ≡ Some bytes
GivesTemporary (Synced bytes) image = image ≡ Some bytes

-- what a crash may leave of the temporary file, if the name stands for it: if it isn't synced, any bytes
abbrev pub LeavesTemporary : Temporary → Image → Type 0
LeavesTemporary Unknown image = Unit {0}
LeavesTemporary (Unsynced bytes) image = IsSome image
LeavesTemporary (Synced bytes) image = image ≡ Some bytes

-- a crash leaves this image and nothing else
abbrev pub Only : Image → (Image → Type 0) → Type 0
Only image outcomes = (left : Image) → outcomes left → left ≡ image

-- a crash may leave a file of any bytes, as of one that took the name before it was synced
abbrev pub LeavesAnyBytes : (Image → Type 0) → Type 0
LeavesAnyBytes outcomes = (bytes : List ℕ) → outcomes (Some bytes)

-- a crash leaves nothing that it could not leave before
abbrev pub LeavesNoMore : (Image → Type 0) → (Image → Type 0) → Type 0
LeavesNoMore before now = (image : Image) → now image → before image

-- a crash leaves what it could leave before, or one of these images
abbrev pub LeavesAlso : (Image → Type 0) → (Image → Type 0) → (Image → Type 0) → Type 0
LeavesAlso before more now = (image : Image) → now image → before image ⊎ more image

-- how many bytes the file has, if there is one
abbrev pub size_of : Image → Option ℕ
size_of image = option_map length image

-- the result of a read fits in a buffer of this many bytes
abbrev pub FitsIn : ℕ → Seen → Type 0
FitsIn room Missing = Unit {0}
FitsIn room (Whole count) = count ≤ room
FitsIn room Longer = Unit {0}

-- the result of a read of this image, and what it left in the buffer: nothing is said of the buffer if there is no
-- file; otherwise the start of the buffer is the file, or the buffer is the start of a longer file
abbrev pub Reads : Image → List ℕ → Seen → Type 0
Reads image buffer Missing = image ≡ None
Reads image buffer (Whole count) = (count ≤ length buffer) × (image ≡ Some (take count buffer))
Reads image buffer Longer =
    (bytes : List ℕ) × (image ≡ Some bytes) × (length buffer < length bytes)
    × (buffer ≡ take (length buffer) bytes)
