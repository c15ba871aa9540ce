-- What becomes of a locked collection that is to be unlocked with a key that was derived outside the service (docs/SERVICE.md, "Prompts").
use Rattle.std.specs.Prelude.{ℕ, ◌==◌, Bool, ◌&&◌, if◌then◌else◌, List, Option, None, Some, Result, Ok, Err}
use Rattle.std.specs.Option.{option_map_or}
use Rattle.kr_base.specs.Attributes.{is_name, value_at}
use Rattle.key_derivation.specs.Kdf.{Inputs, key_of, vector_of}
use Rattle.keyring_file.specs.Clear.{ClearPart}
use Rattle.keyring_file.specs.declared.fault.AreaFault.TheVariants as area
use Rattle.service_tables.specs.keyring_seal.specs.Arranged.{arranged_rows}
use Rattle.service_tables.specs.keyring_seal.specs.Whole.{opened}
use Rattle.service_tables.specs.keyring_seal.specs.declared.content.Content.{Content}
use Rattle.service_tables.specs.keyring_seal.specs.declared.opening.OpenFault.{OpenFault}
use Rattle.service_tables.specs.keyring_seal.specs.declared.opening.OpenFault.TheVariants as fault
use Rattle.replace_slot.specs.Cell.{File, Known, Doubt}
use Rattle.service_tables.specs.collection_store.specs.State.{Held}
use Rattle.service_tables.specs.collection_table.specs.Entries.{changed}
use Rattle.service_tables.specs.collection_table.specs.Rows.{CollectionRow, Rows, is_unlocked}
use Rattle.service_disk.specs.declared.opening.Opening.{Opening}
use Rattle.service_disk.specs.declared.opening.Opening.TheVariants as ends

-- whether a key was derived with the salt and the iterations of a file
abbrev pub is_fit : Inputs → ClearPart → Bool
is_fit key clear = is_name key.salt clear.salt && key.iterations == clear.iterations

-- how an attempt to unlock ends, by what opening the file gives; a file whose clear part is known has no fault there
abbrev pub opening_by : Result Content OpenFault → Opening
opening_by (Ok content) = ends.Opened
opening_by (Err (fault.Clear wrong)) = ends.Damaged
opening_by (Err (fault.Area area.CheckDiffers)) = ends.WrongPassword
opening_by (Err (fault.Area area.Short)) = ends.Damaged
opening_by (Err (fault.Area area.BadText)) = ends.Damaged
opening_by (Err (fault.Area area.BadKind)) = ends.Damaged
opening_by (Err (fault.Area area.DuplicateName)) = ends.Damaged

-- the same by what is known of the file, and by its clear part
abbrev pub opening_file : Inputs → ClearPart → File → Opening
opening_file key clear (Known None) = ends.Unfit
opening_file key clear (Known (Some bytes)) = if is_fit key clear then opening_by (opened bytes (key_of key) (vector_of key)) else ends.Unfit
opening_file key clear (Doubt old new) = ends.Unfit

-- the same for a collection
abbrev pub opening_in : Inputs → CollectionRow → Opening
opening_in key row = if is_unlocked row then ends.Settled else opening_file key row.clear row.file

-- the same for the collection of a stem
abbrev pub opening_of : Inputs → List ℕ → Rows → Opening
opening_of key stem rows = option_map_or (opening_in key) (value_at stem rows) ends.Settled

-- ---- what becomes of it

-- what is held of a content that opened
abbrev pub held_by : Inputs → Result Content OpenFault → Option Held
held_by key (Ok content) = Some (record { key = key_of key; vector = vector_of key; rows = arranged_rows content })
held_by key (Err wrong) = None

-- what is held of a file that is known
abbrev pub held_under : Inputs → File → Option Held
held_under key (Known None) = None
held_under key (Known (Some bytes)) = held_by key (opened bytes (key_of key) (vector_of key))
held_under key (Doubt old new) = None

-- a collection after the attempt: it is unlocked if its file opened, and as before otherwise
abbrev pub row_by : Inputs → Opening → CollectionRow → CollectionRow
row_by key ends.Settled row = row
row_by key ends.Unfit row = row
row_by key ends.WrongPassword row = row
row_by key ends.Damaged row = row
row_by key ends.Opened row = record row { held = held_under key row.file }

-- the same, by the key
abbrev pub row_opened : Inputs → CollectionRow → CollectionRow
row_opened key row = row_by key (opening_in key row) row

-- the collections after the one of a stem was to be unlocked
abbrev pub rows_opened : Inputs → List ℕ → Rows → Rows
rows_opened key stem rows = changed stem (row_opened key) rows
