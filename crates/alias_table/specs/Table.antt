-- The aliases with their file, and what a change does to both (docs/SERVICE.md, "Aliases").
use Rattle.std.specs.Prelude.{◌≡◌, ℕ, ◌<◌, ◌≤◌, ◌⊎◌, List, length, Option, None, Some, Result, Ok, Err, IsSome, IsErrOf, option_map}
use Rattle.std.specs.Option.{unwrap_or}
use Rattle.kr_outside.specs.declared.slot.Seen.{Seen}
use Rattle.alias_text.specs.Pairs.{GivesAliases}
use Rattle.alias_text.specs.Writing.{text_of}
use Rattle.replace_slot.specs.Cell.{File, Known, Doubt, IsKnown, old_image, longest_of}
use Rattle.replace_slot.specs.Found.{found_file, IsFoundBy}
use Rattle.replace_slot.specs.declared.images.Found.{Found}
use Rattle.replace_slot.specs.declared.images.Found.TheVariants.{Old, New, Other}
use Rattle.alias_table.specs.Changed.{Aliases, changed, few}
use Rattle.alias_table.specs.declared.refused.AliasRefused.{AliasRefused}
use Rattle.alias_table.specs.declared.refused.AliasRefused.TheVariants.{TooMany, FaultBefore, FaultUnsure, FaultRead}

-- the rows of the table: the file, the aliases that are read and, in doubt, the aliases of the newer image
pub record AliasRows : Type 0 where
  pub file : File
  pub aliases : Aliases
  pub newer : Option Aliases

-- the table as contracts see it: its slot, and the rows
pub record TableState (S : Type 0) : Type 0 where
  pub slot : S
  pub rows : AliasRows

-- the table with these parts
abbrev pub seen_as : {S : Type 0} → S → File → Aliases → Option Aliases → TableState S
seen_as slot file aliases newer = record { slot = slot; rows = record { file = file; aliases = aliases; newer = newer } }

-- the aliases are those that the known image gives or, in doubt, those of the older image and those of the newer one
abbrev pub AreGiven : File → Aliases → Option Aliases → Type 0
AreGiven (Known image) aliases None = GivesAliases image aliases
AreGiven (Known image) aliases (Some newer) = ⊥
AreGiven (Doubt old new) aliases None = ⊥
AreGiven (Doubt old new) aliases (Some newer) = GivesAliases old aliases × GivesAliases new newer

-- a change that was prepared: what it makes of the aliases that are read and, in doubt, of those of the newer image, each
-- None if there would be too many; and the buffer that a resolve reads the file into
pub record Change : Type 0 where
  pub next : Option Aliases
  pub newer : Option (Option Aliases)
  pub buffer : List ℕ

-- the change was prepared for a table with these rows: it has what a resolve needs exactly if there will be one
pub record IsFor (change : Change) (rows : AliasRows) : Type 0 where
  pub known : IsKnown rows.file → change.newer ≡ None
  pub doubt : ¬ (IsKnown rows.file) → IsSome change.newer
  pub room : ¬ (IsKnown rows.file) → longest_of rows.file < length change.buffer

-- this was prepared: the alias is set to a stem or removed, while these collections exist
pub record IsPrepared (name : List ℕ) (stem : Option (List ℕ)) (live : List (List ℕ)) (rows : AliasRows) (change : Change) : Type 0 where
  pub next : change.next ≡ few (changed name stem live rows.aliases)
  pub newer : change.newer ≡ option_map (λ aliases. few (changed name stem live aliases)) rows.newer
  pub fits : IsFor change rows

-- the rows after a resolve that found this
abbrev pub resolved : Found → AliasRows → AliasRows
resolved Old rows = record { file = found_file Old rows.file; aliases = rows.aliases; newer = None }
resolved New rows = record { file = found_file New rows.file; aliases = unwrap_or rows.newer rows.aliases; newer = None }
resolved Other rows = record { file = found_file Other rows.file; aliases = rows.aliases; newer = None }

-- what is stored after it
abbrev pub chosen : Found → Change → Option Aliases
chosen Old change = change.next
chosen New change = unwrap_or change.newer change.next
chosen Other change = change.next

-- the rows after these aliases were stored
abbrev pub stored : Aliases → AliasRows
stored next = record { file = Known (Some (text_of next)); aliases = next; newer = None }

-- the rows if it is unsure whether they were
abbrev pub unsure : Aliases → AliasRows → AliasRows
unsure next rows = record { file = Doubt (old_image rows.file) (Some (text_of next)); aliases = rows.aliases; newer = Some next }

-- what a store of these aliases, None if there are too many, does to rows whose file is known, with this answer
pub data Stores (next : Option Aliases) (rows : AliasRows) : Result (Unit {0}) AliasRefused → AliasRows → Type 0 where
  done : (these : Aliases) → next ≡ Some these → Stores next rows (Ok tt) (stored these)
  too_many : next ≡ None → Stores next rows (Err TooMany) rows
  failed : (these : Aliases) → next ≡ Some these → Stores next rows (Err FaultBefore) rows
  in_doubt : (these : Aliases) → next ≡ Some these → Stores next rows (Err FaultUnsure) (unsure these rows)

-- the last read of the slot, at some point between these two, found this of the file
pub record WasRead {S : Type 0} (answered : S → Option Seen) (faults : S → ℕ) (old new : S) (found : Found) (file : File) : Type 0 where
  pub slot : S
  pub buffer : List ℕ
  pub later : faults old ≤ faults slot
  pub earlier : faults slot ≤ faults new
  pub by_read : IsFoundBy (answered slot) buffer found file

-- What a change does to rows, with this answer. If the file is known, what was prepared for it is stored. In doubt a
-- resolve comes first: it fails, or what was prepared for the image that it found is stored, and the doubt stays ended
-- whatever is refused then.
pub data Sets (IsRead : Found → Type 0) (change : Change) (rows : AliasRows) : Result (Unit {0}) AliasRefused → AliasRows → Type 0 where
  known : (result : Result (Unit {0}) AliasRefused) (next : AliasRows) → IsKnown rows.file
      → Stores change.next rows result next → Sets IsRead change rows result next
  unread : ¬ (IsKnown rows.file) → Sets IsRead change rows (Err FaultRead) rows
  settled : (found : Found) (result : Result (Unit {0}) AliasRefused) (next : AliasRows) → ¬ (IsKnown rows.file) → IsRead found
      → Stores (chosen found change) (resolved found rows) result next → Sets IsRead change rows result next

-- the answer is a fault of the device
abbrev pub IsFault : Result (Unit {0}) AliasRefused → Type 0
IsFault result = IsErrOf result FaultRead ⊎ IsErrOf result FaultBefore ⊎ IsErrOf result FaultUnsure
