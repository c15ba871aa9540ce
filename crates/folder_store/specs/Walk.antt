-- What is known while the names of a folder are gone through.
use Rattle.std.specs.Prelude.{◌≡◌, ℕ, ◌<◌, Bool, IsTrue, List, [], ◌∷◌, ◌++◌, length, Contains, Option, None, Some, IsSome, Vec}
use Rattle.std.specs.List.{AllByRecursion}
use Rattle.std.specs.Map.{keys_of}
use Rattle.std.specs.Option.{option_map}
use Rattle.std.specs.declared.alloc.Global.{Global}
use Rattle.kr_outside.specs.RenameDisk.{Image, Only}
use Rattle.folder_store.specs.declared.limits.Limits.{Limits}
use Rattle.folder_store.specs.declared.reading.Look.{Look}
use Rattle.folder_store.specs.declared.reading.Look.TheVariants as look
use Rattle.folder_store.specs.Names.{IsRingName}
use Rattle.folder_store.specs.Opened.{Opening, Opens, Takes}
use Rattle.folder_store.specs.Ring.{RingState, IsLonger, rows_of}
use Rattle.folder_store.specs.declared.opening.LeftAlone.{LeftAlone}

-- the image whose bytes are in the vector, or no file if there is no vector
abbrev pub image_of : Option (Vec ℕ Global) → Image
image_of image = option_map (λ bytes. bytes.items) image

-- a read of at most this many bytes: it returned the file, or there is no file that short
abbrev pub ReadsWithin : ℕ → Image → Option (Vec ℕ Global) → Type 0
ReadsWithin room seen None = (bytes : List ℕ) → seen ≡ Some bytes → room < length bytes
ReadsWithin room seen (Some bytes) = seen ≡ Some bytes.items

-- a look at a file: its bytes if there are at most this many, or that there is no file; otherwise that it is longer
abbrev pub Looks : ℕ → Image → Look → Type 0
Looks most seen (look.Whole image) = (image_of image ≡ seen) × ¬ (IsLonger most seen)
Looks most seen look.Longer = IsLonger most seen

-- the collections that are listed so far, with their cells, the stems that are used, the slots of the files that
-- were left alone, and the slot at which the load stopped
pub record OpeningState (S : Type 0) : Type 0 where
  pub rings : List (RingState S)
  pub used : List (List ℕ)
  pub left : List (LeftAlone S)
  pub last : Option S

-- the same without the slots
abbrev pub plain : {S : Type 0} → OpeningState S → Opening
plain opening = record { rings = rows_of opening.rings; used = opening.used }

-- either no slot was made, or one for this name, whose stem is used
pub data MakesAtMost (name : List ℕ) (used made : List (List ℕ)) : List (List ℕ) → Type 0 where
  none : MakesAtMost name used made made
  one : (stem : List ℕ) → IsRingName name stem → Contains used stem → MakesAtMost name used made (name ∷ made)

-- one more file was taken; in an honest folder, the one that was there, if any
pub record Visits {S : Type 0} (limits : Limits) (honest : Bool) (seen : Image) (name : List ℕ) (made_old made_new : List (List ℕ)) (old new : OpeningState S) : Type 0 where
  pub image : List ℕ
  pub takes : Takes limits name image (plain old) (plain new)
  pub told : IsTrue honest → IsSome seen → seen ≡ Some image
  pub made : MakesAtMost name new.used made_old made_new

-- after these names, on a folder for which no slot was made before
pub record Walk {F : Type 0} (limits : Limits) (honest : Bool) (images : F → List ℕ → Image) (may_leave : F → List ℕ → Image → Type 0) (made : F → List (List ℕ)) (old new : F) (names : List (List ℕ)) (opening : Opening) : Type 0 where
  pub files : List (List ℕ × List ℕ)
  pub keys : keys_of files ≡ names
  pub opens : Opens limits files opening
  -- in an honest folder these are its files
  pub told : IsTrue honest → AllByRecursion (λ file. images old file.0 ≡ Some file.1) files
  -- slots were made only for those of these names whose stems are used by now
  pub slots : (name : List ℕ) → Contains (made new) name → Contains names name × ((stem : List ℕ) × IsRingName name stem × Contains opening.used stem)
  -- every other name is as it was
  pub same : IsTrue honest → (name : List ℕ) → ¬ (Contains (made new) name) → images new name ≡ images old name
  pub settled : IsTrue honest → (name : List ℕ) → ¬ (Contains (made new) name) → Only (images old name) (may_leave new name)

-- the load stops at this slot, which is kept, and so are all others
pub record StopsAt {S : Type 0} (slot : S) (old new : OpeningState S) : Type 0 where
  pub last : new.last ≡ Some slot
  pub rings : new.rings ≡ old.rings
  pub left : new.left ≡ old.left

-- the slot of a file with this stem is kept, with a collection that is listed or by itself
pub data Keeps {S : Type 0} (stem : List ℕ) (slot : S) (old new : OpeningState S) : Type 0 where
  in_ring : (ring : RingState S) → ring.stem ≡ stem → ring.cell.slot ≡ slot
      → new.rings ≡ old.rings ++ ring ∷ [] → new.left ≡ old.left → Keeps stem slot old new
  by_itself : (file : LeftAlone S) → file.stem ≡ stem → file.slot ≡ slot
      → new.rings ≡ old.rings → new.left ≡ old.left ++ file ∷ [] → Keeps stem slot old new
