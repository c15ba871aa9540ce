-- What is found in a folder at startup (docs/KEYRING_FILES.md, "A folder").
use Rattle.std.specs.Prelude.{◌≡◌, ℕ, ◌+◌, ◌<◌, ◌≤◌, List, [], ◌∷◌, ◌++◌, length, map}
use Rattle.std.specs.Cmp.Lexicographic.{slice_cmp}
use Rattle.std.specs.List.Sorted.{IsPermutation, IsStrictlySortedBy}
use Rattle.std.specs.Ordering.{nat_cmp}
use Rattle.kr_base.specs.Attributes.{IsInOrder, value_at}
use Rattle.kr_outside.specs.RenameDisk.{Image}
use Rattle.keyring_file.specs.Clear.{ClearPart}
use Rattle.keyring_file.specs.ClearText.{HasClear}
use Rattle.alias_text.specs.Pairs.{GivesAliases}
use Rattle.folder_store.specs.declared.limits.Limits.{Limits}
use Rattle.folder_store.specs.Names.{aliases, IsRingName}

-- a collection that is listed: its stem, the clear part of its file, and the file
pub record RingRow : Type 0 where
  pub stem : List ℕ
  pub clear : ClearPart
  pub image : List ℕ

-- the number of items of these collections together
abbrev pub items_in : List RingRow → ℕ
items_in [] = 0
items_in (ring ∷ rings) = length ring.clear.items + items_in rings

-- the number of bytes of their files together
abbrev pub bytes_in : List RingRow → ℕ
bytes_in [] = 0
bytes_in (ring ∷ rings) = length ring.image + bytes_in rings

-- what is open after some files: the collections that are listed, and the stems that are used
pub record Opening : Type 0 where
  pub rings : List RingRow
  pub used : List (List ℕ)

-- the limits allow this file to be listed after these
pub record Fits (limits : Limits) (rings : List RingRow) (clear : ClearPart) (image : List ℕ) : Type 0 where
  pub one_file : length image ≤ limits.one_file
  pub collections : length rings < limits.collections
  pub items : items_in rings + length clear.items ≤ limits.items
  pub all_files : bytes_in rings + length image ≤ limits.all_files

-- the file is left alone, and its stem is used
abbrev pub leaves_alone : List ℕ → Opening → Opening
leaves_alone stem opening = record opening { used = opening.used ++ stem ∷ [] }

-- the file is listed
abbrev pub lists : List ℕ → ClearPart → List ℕ → Opening → Opening
lists stem clear image opening = record {
  rings = opening.rings ++ (record { stem = stem; clear = clear; image = image }) ∷ [];
  used = opening.used ++ stem ∷ [];
}

-- How one more file changes what is open: a file with another name changes nothing; one with the name of a
-- keyring file is listed if it is a keyring file and the limits allow it, and is otherwise left alone.
pub data Takes (limits : Limits) (name image : List ℕ) (opening : Opening) : Opening → Type 0 where
  other : ((stem : List ℕ) → ¬ (IsRingName name stem)) → Takes limits name image opening opening
  left_alone : (stem : List ℕ) → IsRingName name stem
      → ((clear : ClearPart) → HasClear image clear → ¬ (Fits limits opening.rings clear image))
      → Takes limits name image opening (leaves_alone stem opening)
  listed : (stem : List ℕ) (clear : ClearPart) → IsRingName name stem → HasClear image clear
      → Fits limits opening.rings clear image → Takes limits name image opening (lists stem clear image opening)

-- what is open after these files, each a name and its bytes
pub data Opens (limits : Limits) : List (List ℕ × List ℕ) → Opening → Type 0 where
  none : Opens limits [] (record { rings = []; used = [] })
  more : (files : List (List ℕ × List ℕ)) (opening next : Opening) (name image : List ℕ) → Opens limits files opening
      → Takes limits name image opening next → Opens limits (files ++ (name, image) ∷ []) next

-- the same rows in byte order of their stems, no two of which are equal
pub record IsByStem {R : Type 0} (stem : R → List ℕ) (rows ordered : List R) : Type 0 where
  pub same : IsPermutation rows ordered
  pub rising : IsStrictlySortedBy (slice_cmp nat_cmp) (map stem ordered)

-- what a start makes of these files: it takes them in byte order of their names, and puts the collections that
-- are listed in byte order of their stems
pub record Starts (limits : Limits) (files : List (List ℕ × List ℕ)) (opening : Opening) : Type 0 where
  pub ordered : IsInOrder files
  pub taken : List RingRow
  pub opens : Opens limits files (record { rings = taken; used = opening.used })
  pub by_stem : IsByStem (λ ring. ring.stem) taken opening.rings

-- what a start makes of the images by name
pub record Opened (limits : Limits) (images : List ℕ → Image) (opening : Opening) (pairs : List (List ℕ × List ℕ)) : Type 0 where
  pub files : List (List ℕ × List ℕ)
  pub all : (name : List ℕ) → images name ≡ value_at name files
  pub starts : Starts limits files opening
  pub aliases : GivesAliases (images aliases) pairs
