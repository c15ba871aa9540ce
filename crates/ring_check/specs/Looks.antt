-- What a check does with a folder: it looks at some names, and changes none.
use Rattle.std.specs.Prelude.{◌≡◌, ℕ, ◌<◌, ◌⊎◌, List, [], ◌∷◌, ◌++◌, length, Any, Bool, IsTrue, Option, None, Some}
use Rattle.kr_outside.specs.Faults.{Rose, KeepsSteady}
use Rattle.kr_outside.specs.Folder.{Stays}
use Rattle.kr_outside.specs.RenameDisk.{Image, Temporary, Unknown, LeavesNoMore}
use Rattle.keyring_file.specs.Limits.{file_limit}
use Rattle.ring_check.specs.declared.reading.Found.{Found}
use Rattle.ring_check.specs.declared.reading.Found.TheVariants as found
use Rattle.ring_check.specs.declared.reading.Looked.{Looked}

-- the bytes are those of a file that was read, or those of a file that is too large to be read
abbrev pub HasBytes : Found → List ℕ → Type 0
HasBytes (found.Whole read) bytes = bytes ≡ read
HasBytes found.TooLarge bytes = file_limit < length bytes

-- a look at this image found this, or no file
abbrev pub Shows : Image → Option Found → Type 0
Shows image None = image ≡ None
Shows image (Some what) = (bytes : List ℕ) × (image ≡ Some bytes) × HasBytes what bytes

-- A slot that was made of a name and only looked at. It is honest exactly if the folder is, and steady exactly if the folder
-- is. In an honest folder the name still stands for the same image, a crash leaves nothing that it couldn't leave before the
-- slot was made, and the temporary file wasn't touched.
pub record IsUntouched {S : Type 0} (seen : S → Image) (temporary : S → Temporary) (may_leave : S → Image → Type 0) (is_honest is_steady : S → Bool) (honest steady : Bool) (image : Image) (leaves : Image → Type 0) (slot : S) : Type 0 where
  pub as_honest : is_honest slot ≡ honest
  pub as_steady : is_steady slot ≡ steady
  pub same : IsTrue honest → seen slot ≡ image
  pub crash : IsTrue honest → LeavesNoMore leaves (may_leave slot)
  pub untouched : IsTrue honest → temporary slot ≡ Unknown

-- the slots that were made of these names, the newest first, are these, the oldest first, and each is untouched
pub data AreUntouched {S : Type 0} (untouched : List ℕ → S → Type 0) : List (List ℕ) → List (Looked S) → Type 0 where
  none : AreUntouched untouched [] []
  more : (made : List (List ℕ)) (looked : List (Looked S)) (one : Looked S) → AreUntouched untouched made looked
      → untouched one.name one.slot → AreUntouched untouched (one.name ∷ made) (looked ++ one ∷ [])

-- no slot was made, or one of this name
pub data LooksOnce {S : Type 0} (name : List ℕ) (untouched : S → Type 0) (made : List (List ℕ)) (looked : List (Looked S)) : List (List ℕ) → List (Looked S) → Type 0 where
  nothing : LooksOnce name untouched made looked made looked
  once : (one : Looked S) → one.name ≡ name → untouched one.slot → LooksOnce name untouched made looked (name ∷ made) (looked ++ one ∷ [])

-- one of these slots failed: its count of faults rose from 0
abbrev pub HasFailed : {S : Type 0} → (S → ℕ) → List (Looked S) → Type 0
HasFailed faults looked = Any (λ one. Rose 0 (faults one.slot)) looked

-- A check of a folder of which no slot was made before. Each slot that was made is returned and untouched, and each other name
-- is as it was.
pub record OnlyLooks {F S : Type 0} (untouched : List ℕ → S → Type 0) (honest : Bool) (images : F → List ℕ → Image) (may_leave : F → List ℕ → Image → Type 0) (made : F → List (List ℕ)) (is_honest is_steady : F → Bool) (faults : F → ℕ) (old new : F) (looked : List (Looked S)) : Type 0 where
  pub slots : AreUntouched untouched (made new) looked
  pub others : IsTrue honest → Stays images may_leave (made new) old new
  pub as_honest : is_honest new ≡ is_honest old
  pub steady : KeepsSteady (is_steady old) (is_steady new) (faults old) (faults new)
