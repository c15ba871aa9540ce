-- What becomes of the collections and of the disk once a collection was to be made (docs/SERVICE.md, "Prompts" and "Names and paths").
use Rattle.std.specs.Prelude.{◌≡◌, ◌⊎◌, ℕ, Bool, ◌&&◌, false, IsTrue, IfSome, IfNone, nat_le, List, ◌∷◌, length, Contains, None, Some}
use Rattle.kr_base.specs.Attributes.{is_name}
use Rattle.kr_outside.specs.Folder.{Stays}
use Rattle.kr_outside.specs.RenameDisk.{Image, Only}
use Rattle.key_derivation.specs.Kdf.{Inputs, key_of, vector_of}
use Rattle.service_tables.specs.keyring_seal.specs.Whole.{sealed}
use Rattle.service_tables.specs.keyring_seal.specs.declared.content.Content.{Content}
use Rattle.replace_slot.specs.Cell.{Known, Doubt}
use Rattle.folder_store.specs.Loads.{IsFree}
use Rattle.folder_store.specs.Names.{IsRingName}
use Rattle.service_tables.specs.collection_store.specs.Changes.{content_created}
use Rattle.service_tables.specs.collection_store.specs.Outcomes.{most_for}
use Rattle.service_tables.specs.collection_table.specs.Entries.{inserted}
use Rattle.service_tables.specs.collection_table.specs.Rows.{CollectionRow, Rows, room_in, stored}
use Rattle.stem_choice.specs.UsedStems.{with_stem}
use Rattle.service_tables.specs.Disk.{DiskState}
use Rattle.service_tables.specs.Slots.{StoresIn, are_steady, file_at, slot_at}
use Rattle.service_tables.specs.declared.fate.Fate.TheVariants.{Store}
use Rattle.service_tables.specs.declared.fate.StoreFate.{StoreFate}
use Rattle.service_tables.specs.declared.fate.StoreFate.TheVariants as fate

-- what a collection is made of: its label, the key that its file is encrypted with, and the moment
pub record Plan : Type 0 where
  pub label : List ℕ
  pub key : Inputs
  pub now : ℕ

-- its content
abbrev pub content_of : Plan → Content
content_of plan = content_created plan.now plan.label plan.key.salt plan.key.iterations

-- its file
abbrev pub file_of : Plan → List ℕ
file_of plan = sealed (content_of plan) (key_of plan.key) (vector_of plan.key)

-- whether its file keeps within the limits of one file and of all files together
abbrev pub has_room : Plan → Rows → Bool
has_room plan rows = nat_le (length (file_of plan)) (most_for (room_in rows) (Known None))

-- a collection, if it isn't known whether its first file was stored: it is locked
abbrev pub perhaps_made : Plan → CollectionRow
perhaps_made plan = record {
  file = Doubt None (Some (file_of plan));
  clear = (content_of plan).clear;
  other = None;
  held = None;
}

-- the collections after one was to be made under a stem, by how that ended
abbrev pub rows_made : List ℕ → Plan → StoreFate → Rows → Rows
rows_made stem plan fate.Stored rows = inserted stem (stored (content_of plan) (key_of plan.key) (vector_of plan.key)) rows
rows_made stem plan fate.Before rows = rows
rows_made stem plan fate.Unsure rows = inserted stem (perhaps_made plan) rows

-- ---- slots, each of which is made of the folder once

-- a folder after at most one slot was made of it: of all names of which none was made, it says what it said before
pub record KeepsFolder {F : Type 0} (is_honest is_steady : F → Bool) (faults : F → ℕ) (images : F → List ℕ → Image)
    (may_leave : F → List ℕ → Image → Type 0) (made : F → List (List ℕ)) (old new : F) : Type 0 where
  pub stays : IsTrue (is_honest old) → Stays images may_leave (made new) old new
  pub honest : is_honest new ≡ is_honest old
  pub steady : is_steady new ≡ is_steady old
  pub count : faults new ≡ faults old

-- A slot that was just made for a name without a file: no fault of it is counted, and it is as honest and as steady as its folder. In an
-- honest folder no crash might have left a file at any moment of the slot's clock.
pub record IsFresh {S : Type 0} (is_honest is_steady : S → Bool) (faults : S → ℕ) (left_since : S → ℕ → Image → Type 0) (honest steady : Bool)
    (slot : S) : Type 0 where
  pub as_honest : is_honest slot ≡ honest
  pub as_steady : is_steady slot ≡ steady
  pub count : faults slot ≡ 0
  pub any_moment : IsTrue honest → Only None (left_since slot 0)

-- Nothing has the name of the file of this stem: either no slot was made of that name and it is free, or its slot was kept, and a crash
-- leaves no file of it.
pub record IsFreeStem {F S : Type 0} (folder_honest : F → Bool) (images : F → List ℕ → Image) (folder_leaves : F → List ℕ → Image → Type 0)
    (made : F → List (List ℕ)) (is_honest : S → Bool) (may_leave : S → Image → Type 0) (stem : List ℕ) (disk : DiskState F S) : Type 0 where
  pub unmade : IfNone (slot_at stem disk) ((name : List ℕ) → IsRingName name stem
      → IsFree (folder_honest disk.folder) images folder_leaves made disk.folder name)
  pub kept : IfSome (slot_at stem disk) (λ slot. IsTrue (is_honest slot) → Only None (may_leave slot))

-- a collection can be made under each stem that isn't used
abbrev pub AreFree : {F S : Type 0} → (F → Bool) → (F → List ℕ → Image) → (F → List ℕ → Image → Type 0) → (F → List (List ℕ)) → (S → Bool)
    → (S → Image → Type 0) → DiskState F S → Type 0
AreFree folder_honest images folder_leaves made is_honest may_leave disk =
    (stem : List ℕ) → ¬ (Contains disk.used stem) → IsFreeStem folder_honest images folder_leaves made is_honest may_leave stem disk

-- whether the folder is steady, and the slot of each collection, and of each that was kept
abbrev pub is_steady_with : {F S : Type 0} → (F → Bool) → (S → Bool) → DiskState F S → Bool
is_steady_with folder_steady is_steady disk = folder_steady disk.folder && are_steady is_steady disk

-- A slot was just made for the file of this stem, for which the disk had none: it is the first one of its name.
pub record MakesSlot {F S : Type 0} (folder_honest folder_steady : F → Bool) (made : F → List (List ℕ)) (is_honest is_steady : S → Bool)
    (faults : S → ℕ) (left_since : S → ℕ → Image → Type 0) (stem : List ℕ) (slot : S) (old new : DiskState F S) : Type 0 where
  pub none : slot_at stem old ≡ None
  pub fresh : IsFresh is_honest is_steady faults left_since (folder_honest old.folder) (folder_steady old.folder) slot
  pub name : List ℕ
  pub named : IsRingName name stem
  pub unmade : ¬ (Contains (made old.folder) name)
  pub alone : made new.folder ≡ name ∷ made old.folder

-- The disk has a slot for this stem that it had, or that was just made of its folder; all else is as before.
pub record HasSlot {F S : Type 0} (folder_honest folder_steady : F → Bool) (folder_faults : F → ℕ) (images : F → List ℕ → Image)
    (folder_leaves : F → List ℕ → Image → Type 0) (made : F → List (List ℕ)) (is_honest is_steady : S → Bool) (faults : S → ℕ)
    (left_since : S → ℕ → Image → Type 0) (stem : List ℕ) (slot : S) (old new : DiskState F S) : Type 0 where
  pub one : ((slot_at stem old ≡ Some slot) × (made new.folder ≡ made old.folder))
      ⊎ MakesSlot folder_honest folder_steady made is_honest is_steady faults left_since stem slot old new
  pub folder : KeepsFolder folder_honest folder_steady folder_faults images folder_leaves made old.folder new.folder
  pub others : (other : List ℕ) → is_name stem other ≡ false → slot_at other new ≡ slot_at other old
  pub all_steady : is_steady_with folder_steady is_steady new ≡ is_steady_with folder_steady is_steady old

-- One making of a collection: its slot is used, and no other, and stays the slot of its stem, which is used from then on.
pub record MakesAt {F S : Type 0} (folder_honest folder_steady : F → Bool) (folder_faults : F → ℕ) (images : F → List ℕ → Image)
    (folder_leaves : F → List ℕ → Image → Type 0) (made : F → List (List ℕ)) (is_honest is_steady : S → Bool) (faults : S → ℕ) (moment : S → ℕ)
    (left_since : S → ℕ → Image → Type 0) (may_leave : S → Image → Type 0) (stem : List ℕ) (fate : StoreFate) (before after : Rows)
    (old new : DiskState F S) : Type 0 where
  pub was : S
  pub is : S
  pub slot : HasSlot folder_honest folder_steady folder_faults images folder_leaves made is_honest is_steady faults left_since stem was old new
  pub kept : slot_at stem new ≡ Some is
  pub stores : StoresIn is_honest is_steady faults moment left_since may_leave (Store fate) (file_at stem before) (file_at stem after) was is
  pub used : new.used ≡ with_stem stem old.used
  pub rest : new ≡ record old { folder = new.folder; slots = new.slots; spare = new.spare; used = new.used }

-- A making that was refused before the first call of a device: at most one slot was made, which the disk keeps for the next making under
-- this stem, which isn't used by that.
pub record KeepsSlot {F S : Type 0} (folder_honest folder_steady : F → Bool) (folder_faults : F → ℕ) (images : F → List ℕ → Image)
    (folder_leaves : F → List ℕ → Image → Type 0) (made : F → List (List ℕ)) (is_honest is_steady : S → Bool) (faults : S → ℕ)
    (left_since : S → ℕ → Image → Type 0) (stem : List ℕ) (old new : DiskState F S) : Type 0 where
  pub slot : ((slot_at stem new ≡ slot_at stem old) × (made new.folder ≡ made old.folder))
      ⊎ ((slot : S) × (slot_at stem new ≡ Some slot)
      × MakesSlot folder_honest folder_steady made is_honest is_steady faults left_since stem slot old new)
  pub folder : KeepsFolder folder_honest folder_steady folder_faults images folder_leaves made old.folder new.folder
  pub others : (other : List ℕ) → is_name stem other ≡ false → slot_at other new ≡ slot_at other old
  pub all_steady : is_steady_with folder_steady is_steady new ≡ is_steady_with folder_steady is_steady old
  pub rest : new ≡ record old { folder = new.folder; spare = new.spare }
