-- How the slot of a new collection is taken from its disk, or made of its folder.
use Rattle.std.specs.Prelude.{◌≡◌, ◌⊎◌, ◌<◌, ℕ, Bool, ◌&&◌, false, if◌then◌else◌, IsTrue, List, [], ◌∷◌, length, Contains, None, Some}
use Rattle.std.specs.List.{remove, slice_get}
use Rattle.kr_base.specs.Attributes.{is_name, value_at}
use Rattle.kr_outside.specs.RenameDisk.{Image, Only}
use Rattle.service_tables.specs.Disk.{DiskState}
use Rattle.service_tables.specs.Slots.{slot_at}
use Rattle.service_disk.specs.Making.{IsFresh, KeepsFolder, MakesSlot, is_steady_with}

-- the list without the first entry of a stem
abbrev pub without_first : {V : Type 0} → List ℕ → List (List ℕ × V) → List (List ℕ × V)
without_first stem [] = []
without_first stem (entry ∷ entries) = if is_name stem entry.0 then entries else entry ∷ without_first stem entries

-- the first entry of a stem is at this place
pub record IsFirstOf {V : Type 0} (stem : List ℕ) (entries : List (List ℕ × V)) (place : ℕ) : Type 0 where
  pub within : place < length entries
  pub value : V
  pub at : slice_get entries place ≡ Some (stem, value)
  pub first : value_at stem entries ≡ Some value
  pub rest : remove entries place ≡ without_first stem entries

-- a slot was made of a folder, the first one of its name, and a crash leaves no file of it
pub record TakesNew {F S : Type 0} (folder_honest folder_steady : F → Bool) (made : F → List (List ℕ)) (is_honest is_steady : S → Bool)
    (faults : S → ℕ) (left_since : S → ℕ → Image → Type 0) (may_leave : S → Image → Type 0) (name : List ℕ) (slot : S) (old new : F) : Type 0 where
  pub fresh : IsFresh is_honest is_steady faults left_since (folder_honest old) (folder_steady old) slot
  pub unmade : ¬ (Contains (made old) name)
  pub alone : made new ≡ name ∷ made old
  pub empty : IsTrue (is_honest slot) → Only None (may_leave slot)

-- The slot of a stem was kept by the disk, which has it no more, or was made of its folder; a crash leaves no file of it. All else is as
-- before.
pub record TakesSlot {F S : Type 0} (folder_honest folder_steady : F → Bool) (folder_faults : F → ℕ) (images : F → List ℕ → Image)
    (folder_leaves : F → List ℕ → Image → Type 0) (made : F → List (List ℕ)) (is_honest is_steady : S → Bool) (faults : S → ℕ)
    (left_since : S → ℕ → Image → Type 0) (may_leave : S → Image → Type 0) (stem : List ℕ) (slot : S) (old new : DiskState F S) : Type 0 where
  pub one : ((slot_at stem old ≡ Some slot) × (made new.folder ≡ made old.folder))
      ⊎ MakesSlot folder_honest folder_steady made is_honest is_steady faults left_since stem slot old new
  pub folder : KeepsFolder folder_honest folder_steady folder_faults images folder_leaves made old.folder new.folder
  pub empty : IsTrue (is_honest slot) → Only None (may_leave slot)
  pub others : (other : List ℕ) → is_name stem other ≡ false → slot_at other new ≡ slot_at other old
  pub all_steady : (is_steady slot && is_steady_with folder_steady is_steady new) ≡ is_steady_with folder_steady is_steady old
  pub rest : new ≡ record old { folder = new.folder; spare = new.spare }

-- no slot was made, and all is as before except for what the folder doesn't say of names without a slot
pub record RefusesSlot {F S : Type 0} (folder_honest folder_steady : F → Bool) (folder_faults : F → ℕ) (images : F → List ℕ → Image)
    (folder_leaves : F → List ℕ → Image → Type 0) (made : F → List (List ℕ)) (old new : DiskState F S) : Type 0 where
  pub folder : KeepsFolder folder_honest folder_steady folder_faults images folder_leaves made old.folder new.folder
  pub unmade : made new.folder ≡ made old.folder
  pub rest : new ≡ record old { folder = new.folder }
