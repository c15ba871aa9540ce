-- The folder of the service, and what was loaded from it.
use Rattle.std.specs.Prelude.{◌≡◌, ℕ, ◌≤◌, ◌⊎◌, Bool, List, [], ◌∷◌, Option, map}
use Rattle.kr_outside.specs.Faults.{KeepsSteady, Rose}
use Rattle.kr_outside.specs.RenameDisk.{Image}
use Rattle.kr_outside.specs.declared.slot.DeviceCall.{DeviceCall}
use Rattle.folder_store.specs.Aliases.{alias_slot, pairs_in}
use Rattle.folder_store.specs.declared.loading.Loaded.{Loaded}
use Rattle.folder_store.specs.declared.opening.LeftAlone.{LeftAlone}
use Rattle.folder_store.specs.Limits.{the_limits}
use Rattle.folder_store.specs.Loads.{Loads}
use Rattle.folder_store.specs.Ring.{HasFailedSlot}
use Rattle.collection_table.specs.Entries.{loaded_from, rows_of, slots_of}
use Rattle.stem_choice.specs.UsedStems.{with_stem}
use Rattle.service_tables.specs.Aliases.{aliases_from, rows_in, slot_in}
use Rattle.service_tables.specs.declared.disk.Disk.{Disk}
use Rattle.service_tables.specs.State.{State}
use Rattle.service_tables.specs.Opened.{Contents, opened_state}

-- a folder with the slots that were made of it: one for the file of each collection, by its stem, those of the files that were left
-- alone, and that of the aliases; those that are kept without a collection, the latest first, because their collection was removed or
-- went, or wasn't made; and the stems that are used, in byte order
pub record DiskState (F S : Type 0) : Type 0 where
  pub folder : F
  pub slots : List (List ℕ × S)
  pub spare : List (List ℕ × S)
  pub used : List (List ℕ)
  pub left_alone : List (LeftAlone S)
  pub aliases : S

-- a disk without what is known of its collections and of its aliases
abbrev pub disk_state : {F S : Type 0} → Disk F S → DiskState F S
disk_state disk = record {
  folder = disk.folder;
  slots = slots_of disk.collections.entries;
  spare = disk.spare.items;
  used = disk.used.stems;
  left_alone = disk.left_alone.items;
  aliases = slot_in disk.aliases;
}

-- the used stems with these
abbrev pub with_stems : List (List ℕ) → List (List ℕ) → List (List ℕ)
with_stems [] used = used
with_stems (stem ∷ stems) used = with_stems stems (with_stem stem used)

-- the stems that are used once this was loaded: those of all keyring files, and those that aliases stand for
abbrev pub used_from : {S : Type 0} → Loaded S → List (List ℕ)
used_from loaded = with_stems (map (λ (pair : List ℕ × List ℕ). pair.1) (pairs_in loaded.aliases)) (with_stems loaded.used.items [])

-- what is known of a disk's collections and of its aliases
abbrev pub contents_in : {F S : Type 0} → Disk F S → Contents
contents_in disk = record { collections = rows_of disk.collections.entries; aliases = rows_in disk.aliases; used = disk.used.stems }

-- what a service that loaded this starts with: its collections are those of the files that are listed, all of them locked
abbrev pub contents_from : {S : Type 0} → Loaded S → Contents
contents_from loaded = record {
  collections = rows_of (map loaded_from loaded.rings.items);
  aliases = aliases_from loaded.aliases;
  used = used_from loaded;
}

-- the disk of a service that loaded this from the folder
abbrev pub disk_from : {F S : Type 0} → F → Loaded S → DiskState F S
disk_from folder loaded = record {
  folder = folder;
  slots = slots_of (map loaded_from loaded.rings.items);
  spare = [];
  used = used_from loaded;
  left_alone = loaded.left_alone.items;
  aliases = alias_slot loaded.aliases;
}

-- What was loaded is what `load` says of this folder, of which no slot was made before: each slot that was made of it is on the disk,
-- and the state is the one that starts from it. The folder is as honest and as steady as it was.
pub record IsLoaded {F S : Type 0} (found : Image → S → Type 0) (is_honest is_steady : F → Bool) (faults : F → ℕ) (images : F → List ℕ → Image)
    (may_leave : F → List ℕ → Image → Type 0) (made : F → List (List ℕ)) (folder : F) (disk : DiskState F S) (state : State) : Type 0 where
  pub loaded : Loaded S
  pub loads : Loads the_limits found (is_honest folder) images may_leave made folder disk.folder loaded
  pub kept : disk ≡ disk_from disk.folder loaded
  pub starts : state ≡ opened_state (contents_from loaded)
  pub honest : is_honest disk.folder ≡ is_honest folder
  pub later : faults folder ≤ faults disk.folder
  pub steady : KeepsSteady (is_steady folder) (is_steady disk.folder) (faults folder) (faults disk.folder)

-- The folder failed while it was loaded: the count rose in the state in which the load left it, or that of one of its
-- slots did, which failed when its file was looked at.
pub record FailedToLoad {F S : Type 0} (found : Image → S → Type 0) (is_honest is_steady : F → Bool) (faults : F → ℕ) (images : F → List ℕ → Image)
    (made : F → List (List ℕ)) (slot_faults : S → ℕ) (failed : S → Option DeviceCall) (folder : F) : Type 0 where
  pub left : F
  pub honest : is_honest left ≡ is_honest folder
  pub later : faults folder ≤ faults left
  pub steady : KeepsSteady (is_steady folder) (is_steady left) (faults folder) (faults left)
  pub cause : Rose (faults folder) (faults left) ⊎ HasFailedSlot found (images folder) (made left) slot_faults failed (is_steady folder)
