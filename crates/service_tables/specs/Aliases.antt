-- The aliases of a service with what is known of their file: what may be asked of them, and what becomes of them once one is set or
-- their file was in doubt (docs/SERVICE.md, "Aliases").
use Rattle.std.specs.Prelude.{ℕ, Bool, false, true, List, [], Option, Some, None}
use Rattle.std.specs.Map.{keys_of}
use Rattle.std.specs.Option.{is_some, option_map, option_map_or}
use Rattle.alias_table.specs.Changed.{Aliases, changed, few}
use Rattle.alias_table.specs.Table.{AliasRows, IsFor, IsPrepared, Change, resolved, stored, unsure}
use Rattle.collection_table.specs.Rows.{Rows}
use Rattle.folder_store.specs.declared.found_aliases.FoundAliases.{FoundAliases}
use Rattle.folder_store.specs.declared.found_aliases.FoundAliases.TheVariants as found
use Rattle.replace_slot.specs.Cell.{File, Known, Doubt}
use Rattle.replace_slot.specs.declared.images.Found.TheVariants as image
use Rattle.service_tables.specs.Opened.{Contents}
use Rattle.service_tables.specs.Questions.{AliasQuestions}
use Rattle.service_tables.specs.declared.aliases.KeptAliases.{KeptAliases}
use Rattle.service_tables.specs.declared.aliases.KeptAliases.TheVariants as kept
use Rattle.service_tables.specs.declared.fate.ReadFate.{ReadFate}
use Rattle.service_tables.specs.declared.fate.ReadFate.TheVariants as read
use Rattle.service_tables.specs.declared.fate.StoreFate.{StoreFate}
use Rattle.service_tables.specs.declared.fate.StoreFate.TheVariants as store

-- ---- what is kept

-- the aliases with their file; None if it was left alone
abbrev pub rows_in : {S : Type 0} → KeptAliases S → Option AliasRows
rows_in (kept.Table table) = Some table.rows
rows_in (kept.LeftAlone slot) = None

-- the slot of the file
abbrev pub slot_in : {S : Type 0} → KeptAliases S → S
slot_in (kept.Table table) = table.slot
slot_in (kept.LeftAlone slot) = slot

-- the aliases that a start finds: those of the known image of their file
abbrev pub aliases_from : {S : Type 0} → FoundAliases S → Option AliasRows
aliases_from (found.Read file) = Some (record { file = file.cell.file; aliases = file.pairs; newer = None })
aliases_from (found.LeftAlone slot) = None

-- the aliases that are read; there are none if their file was left alone
abbrev pub pairs_of : Option AliasRows → Aliases
pairs_of aliases = option_map_or (λ (rows : AliasRows). rows.aliases) aliases []

-- ---- what may be asked

-- two images of the file are known, of which it has one
abbrev pub is_doubt : File → Bool
is_doubt (Known image) = false
is_doubt (Doubt old new) = true

-- the same for the file of the aliases
abbrev pub are_doubtful : Option AliasRows → Bool
are_doubtful aliases = option_map_or (λ (rows : AliasRows). is_doubt rows.file) aliases false

-- the aliases once the one of this name is set to a stem or removed, without those whose collection isn't there; None if there would be too
-- many
abbrev pub aliases_with : List ℕ → Option (List ℕ) → Rows → AliasRows → Option Aliases
aliases_with name stem collections rows = few (changed name stem (keys_of collections) rows.aliases)

-- the answers to questions about the aliases
abbrev pub asked_aliases : Contents → AliasQuestions
asked_aliases contents = record {
  can_set = λ name stem. option_map_or (λ (rows : AliasRows). is_some (aliases_with name stem contents.collections rows)) contents.aliases false;
}

-- ---- what becomes of them

-- the aliases once these were to be stored, by how that ended
abbrev pub rows_set : Aliases → StoreFate → AliasRows → AliasRows
rows_set next store.Stored rows = stored next
rows_set next store.Before rows = rows
rows_set next store.Unsure rows = unsure next rows

-- the same if there are such; nothing is stored of too many
abbrev pub rows_set_of : Option Aliases → StoreFate → AliasRows → AliasRows
rows_set_of None fate rows = rows
rows_set_of (Some next) fate rows = rows_set next fate rows

-- the aliases once the one of this name was to be set to a stem or removed, by how the storing of their file ended
abbrev pub aliases_set : List ℕ → Option (List ℕ) → StoreFate → Contents → Option AliasRows
aliases_set name stem fate contents =
    option_map (λ (rows : AliasRows). rows_set_of (aliases_with name stem contents.collections rows) fate rows) contents.aliases

-- the aliases once their file was to be read again, of which two images are known, by how that ended. If it has neither image, that counts
-- as the older one.
abbrev pub rows_resolved : ReadFate → AliasRows → AliasRows
rows_resolved read.Old rows = resolved image.Old rows
rows_resolved read.New rows = resolved image.New rows
rows_resolved read.Other rows = resolved image.Other rows
rows_resolved read.ReadFailed rows = rows

-- the same if there are aliases
abbrev pub aliases_resolved : ReadFate → Option AliasRows → Option AliasRows
aliases_resolved fate aliases = option_map (rows_resolved fate) aliases

-- ---- what was prepared

-- the change can be stored, and what a resolve needs is there
abbrev pub IsForAliases : Change → Option AliasRows → Type 0
IsForAliases change None = ⊥
IsForAliases change (Some rows) = IsFor change rows

-- the change sets the alias of this name to a stem, or removes it, and drops those whose collection isn't there
abbrev pub IsPreparedIn : List ℕ → Option (List ℕ) → Rows → Change → Option AliasRows → Type 0
IsPreparedIn name stem collections change None = ⊥
IsPreparedIn name stem collections change (Some rows) = IsPrepared name stem (keys_of collections) rows change

-- the same for the aliases of a disk, with its collections
abbrev pub IsPreparedFor : List ℕ → Option (List ℕ) → Contents → Change → Type 0
IsPreparedFor name stem contents change = IsPreparedIn name stem contents.collections change contents.aliases
