-- What is sent to everyone by what a plan asks for and does (docs/SERVICE.md, "Signals"). It is a function of the state before it, of what an
-- event brings, and of how it ended; no row of the table of calls says anything of it.
use Rattle.std.specs.Prelude.{ℕ, false, if◌then◌else◌, List, []}
use Rattle.std.specs.Option.{option_map_or}
use Rattle.key_derivation.specs.Kdf.{Inputs}
use Rattle.keyring_file.specs.Clear.{ClearPart}
use Rattle.kr_base.specs.Attributes.{is_name, value_at}
use Rattle.replace_slot.specs.declared.images.Found.{Found}
use Rattle.replace_slot.specs.declared.images.Found.TheVariants as image
use Rattle.service_disk.specs.Opening.{opening_of}
use Rattle.service_disk.specs.Resolving.{is_file}
use Rattle.service_disk.specs.declared.opening.Opening.{Opening}
use Rattle.service_disk.specs.declared.opening.Opening.TheVariants as ends
use Rattle.service_prompts.specs.Announcing.{closing_signals, erase_signals, gone_signals, label_signals, leaving_signals, lock_signals, make_signals, store_signals}
use Rattle.service_prompts.specs.collection_store.specs.State.{told_after}
use Rattle.service_prompts.specs.collection_table.specs.Rows.{CollectionRow, Rows}
use Rattle.service_prompts.specs.secret_calls.specs.declared.signal.Signal.{Signal}
use Rattle.service_prompts.specs.service_tables.specs.Storing.{Brought, answered_at, change_of}
use Rattle.service_prompts.specs.service_tables.specs.declared.fate.ReadFate.{ReadFate}
use Rattle.service_prompts.specs.service_tables.specs.declared.fate.ReadFate.TheVariants as read
use Rattle.service_prompts.specs.service_tables.specs.declared.fate.StoreFate.{StoreFate}
use Rattle.service_prompts.specs.service_tables.specs.declared.fate.StoreFate.TheVariants as fate
use Rattle.service_events.specs.Plan.{Demand, Store, Erase, Set_alias, Make, Rekey, Reading, Aliases_file, Collection_file}

-- ---- what is stored

-- A collection was to be stored under another key, and that ended so: no signal is about a password, but if it isn't known whether it was
-- stored, the collection is locked.
abbrev pub rekey_signals : List ℕ → StoreFate → Rows → List Signal
rekey_signals stem fate.Stored rows = []
rekey_signals stem fate.Before rows = []
rekey_signals stem fate.Unsure rows = closing_signals stem rows

-- something was asked of the disk, and that ended so; no signal is about an alias
abbrev pub demand_signals : Brought → Demand → StoreFate → Rows → List Signal
demand_signals brought (Store stem edit) ended rows =
    store_signals stem (change_of brought.value edit) ended (answered_at stem (change_of brought.value edit) brought.now rows)
demand_signals brought (Erase stem) ended rows = erase_signals stem ended rows
demand_signals brought (Set_alias alias stem) ended rows = []
demand_signals brought (Make stem label terms) ended rows = make_signals stem ended
demand_signals brought (Rekey stem terms) ended rows = rekey_signals stem ended rows

-- ---- what is read again

-- a collection shows this clear part in place of another: the label is sent if it differs
abbrev pub shown_signals : List ℕ → ClearPart → ClearPart → List Signal
shown_signals stem old new = if is_name old.name new.name then [] else label_signals stem new.name

-- one of the two images of a collection's file was found: if that is no file, the collection goes
abbrev pub row_found_signals : List ℕ → Found → CollectionRow → List Signal
row_found_signals stem found row = if is_file found row.file then shown_signals stem row.clear (told_after found row.clear row.other) else gone_signals stem

-- the same for the collection of a stem, if there is one
abbrev pub found_signals : List ℕ → Found → Rows → List Signal
found_signals stem found rows = option_map_or (row_found_signals stem found) (value_at stem rows) []

-- The file of a collection was to be read again, and that ended so: if it has neither of its images, the collection goes.
abbrev pub resolve_signals : List ℕ → ReadFate → Rows → List Signal
resolve_signals stem read.Old rows = found_signals stem image.Old rows
resolve_signals stem read.New rows = found_signals stem image.New rows
resolve_signals stem read.Other rows = leaving_signals stem rows
resolve_signals stem read.ReadFailed rows = []

-- a file was to be read again, and that ended so; no signal is about the aliases
abbrev pub reading_signals : Reading → ReadFate → Rows → List Signal
reading_signals Aliases_file ended rows = []
reading_signals (Collection_file stem) ended rows = resolve_signals stem ended rows

-- ---- what is unlocked

-- an attempt to unlock a collection ended so
abbrev pub opening_signals : List ℕ → Opening → List Signal
opening_signals stem ends.Settled = []
opening_signals stem ends.Unfit = []
opening_signals stem ends.WrongPassword = []
opening_signals stem ends.Damaged = []
opening_signals stem ends.Opened = lock_signals stem false

-- the collection of a stem was to be unlocked with a key
abbrev pub unlock_signals : Inputs → List ℕ → Rows → List Signal
unlock_signals key stem rows = opening_signals stem (opening_of key stem rows)
