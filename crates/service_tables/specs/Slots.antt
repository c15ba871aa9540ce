-- What storing a file does to the slots of a disk, and what a crash leaves of the files meanwhile (docs/DECISIONS.md, "What a crash claim
-- rests on").
use Rattle.std.specs.Prelude.{◌≡◌, ◌≢◌, ℕ, ◌⊎◌, Bool, ◌&&◌, IsTrue, false, List, Option, Some, None}
use Rattle.std.specs.List.{list_all}
use Rattle.std.specs.Option.{option_map_or, option_or}
use Rattle.kr_base.specs.Attributes.{is_name, value_at}
use Rattle.alias_table.specs.Table.{AliasRows}
use Rattle.kr_outside.specs.Faults.{KeepsSteady, Rose}
use Rattle.kr_outside.specs.Moments.{LeavesOnly}
use Rattle.kr_outside.specs.RenameDisk.{Image}
use Rattle.replace_slot.specs.Cell.{File, Known, IsOneOf, LeavesFile}
use Rattle.collection_table.specs.Rows.{CollectionRow, Rows}
use Rattle.service_tables.specs.declared.fate.Fate.{Fate}
use Rattle.service_tables.specs.declared.fate.Fate.TheVariants.{Read, Store}
use Rattle.service_tables.specs.declared.fate.ReadFate.{ReadFate}
use Rattle.service_tables.specs.declared.fate.ReadFate.TheVariants as read
use Rattle.service_tables.specs.declared.fate.StoreFate.{StoreFate}
use Rattle.service_tables.specs.declared.fate.StoreFate.TheVariants as store
use Rattle.service_tables.specs.Disk.{DiskState}

-- a call of a device failed while a file was stored or removed
abbrev pub IsStoreFault : StoreFate → Type 0
IsStoreFault store.Stored = ⊥
IsStoreFault store.Before = Unit {0}
IsStoreFault store.Unsure = Unit {0}

-- a call of a device failed while a file in doubt was read again
abbrev pub IsReadFault : ReadFate → Type 0
IsReadFault read.Old = ⊥
IsReadFault read.New = ⊥
IsReadFault read.Other = ⊥
IsReadFault read.ReadFailed = Unit {0}

-- a call of a device failed
abbrev pub IsFault : Fate → Type 0
IsFault (Store some) = IsStoreFault some
IsFault (Read some) = IsReadFault some

-- what is known of the file of a stem; there is none where there is no collection
abbrev pub file_at : List ℕ → Rows → File
file_at stem rows = option_map_or (λ (row : CollectionRow). row.file) (value_at stem rows) (Known None)

-- what is known of the file of the aliases; nothing is said if it was left alone
abbrev pub alias_file : Option AliasRows → File
alias_file aliases = option_map_or (λ (rows : AliasRows). rows.file) aliases (Known None)

-- the slot of a stem: that of its collection, or the one that is kept without one
abbrev pub slot_at : {F S : Type 0} → List ℕ → DiskState F S → Option S
slot_at stem disk = option_or (value_at stem disk.slots) (value_at stem disk.spare)

-- a crash at this moment leaves of an honest slot an image that its file is known to have
abbrev pub LeavesKnown : {S : Type 0} → (S → Bool) → (S → ℕ) → (S → ℕ → Image → Type 0) → File → S → Type 0
LeavesKnown is_honest moment left_since file slot = IsTrue (is_honest slot) → LeavesOnly moment left_since slot slot (IsOneOf file)

-- whether the slot of each collection is steady, and each that is kept without one
abbrev pub are_steady : {F S : Type 0} → (S → Bool) → DiskState F S → Bool
are_steady steady disk = list_all (λ slot. steady slot.1) disk.slots && list_all (λ slot. steady slot.1) disk.spare

-- One storing, removal or resolve of a file, with what is known of the file before and after it. A crash at a moment of it leaves one of
-- the file's images before it or after it, and a crash after it one of those after it. A fault has a call of the device that failed,
-- which a steady slot doesn't have. An honest slot has one of the images of a file in doubt.
pub record StoresIn {S : Type 0} (is_honest is_steady : S → Bool) (faults : S → ℕ) (moment : S → ℕ) (left_since : S → ℕ → Image → Type 0)
    (may_leave : S → Image → Type 0) (fate : Fate) (before after : File) (old new : S) : Type 0 where
  pub any_moment : IsTrue (is_honest old) → LeavesOnly moment left_since old new (λ image. IsOneOf before image ⊎ IsOneOf after image)
  pub crash : IsTrue (is_honest new) → LeavesFile after (may_leave new)
  pub honest : is_honest new ≡ is_honest old
  pub steady : KeepsSteady (is_steady old) (is_steady new) (faults old) (faults new)
  pub cause : IsFault fate → Rose (faults old) (faults new)
  pub never : IsTrue (is_steady old) → IsFault fate → ⊥
  pub one : IsTrue (is_honest old) → fate ≢ Read read.Other

-- The same for a disk: the slot of this stem is used, and stays the slot of this stem; all else is as before.
pub record StoresAt {F S : Type 0} (is_honest is_steady : S → Bool) (faults : S → ℕ) (moment : S → ℕ) (left_since : S → ℕ → Image → Type 0)
    (may_leave : S → Image → Type 0) (stem : List ℕ) (fate : Fate) (before after : Rows) (old new : DiskState F S) : Type 0 where
  pub was : S
  pub is : S
  pub slot : slot_at stem old ≡ Some was
  pub kept : slot_at stem new ≡ Some is
  pub stores : StoresIn is_honest is_steady faults moment left_since may_leave fate (file_at stem before) (file_at stem after) was is
  pub others : (other : List ℕ) → is_name stem other ≡ false → slot_at other new ≡ slot_at other old
  pub all_steady : are_steady is_steady new ≡ are_steady is_steady old
  pub rest : new ≡ record old { slots = new.slots; spare = new.spare }

-- The same for the file of the aliases, which is stored or resolved: its slot is used, and all else is as before.
pub record StoresAliases {F S : Type 0} (is_honest is_steady : S → Bool) (faults : S → ℕ) (moment : S → ℕ) (left_since : S → ℕ → Image → Type 0)
    (may_leave : S → Image → Type 0) (fate : Fate) (before after : Option AliasRows) (old new : DiskState F S) : Type 0 where
  pub stores : StoresIn is_honest is_steady faults moment left_since may_leave fate (alias_file before) (alias_file after) old.aliases new.aliases
  pub rest : new ≡ record old { aliases = new.aliases }
