-- What becomes of an unlocked collection that is to be stored under another key, which was derived outside the service (docs/SERVICE.md,
-- "Prompts").
use Rattle.std.specs.Prelude.{ℕ, Bool, false, nat_le, List, length}
use Rattle.std.specs.Option.{option_map_or}
use Rattle.kr_base.specs.Attributes.{value_at}
use Rattle.key_derivation.specs.Kdf.{Inputs, key_of, vector_of}
use Rattle.keyring_file.specs.Clear.{ClearPart}
use Rattle.service_tables.specs.keyring_seal.specs.Whole.{sealed}
use Rattle.service_tables.specs.keyring_seal.specs.declared.content.Content.{Content}
use Rattle.replace_slot.specs.Cell.{File}
use Rattle.service_tables.specs.collection_store.specs.Changes.{content_rekeyed}
use Rattle.service_tables.specs.collection_store.specs.Outcomes.{most_for}
use Rattle.service_tables.specs.collection_store.specs.State.{Held}
use Rattle.service_tables.specs.collection_table.specs.Entries.{changed}
use Rattle.service_tables.specs.collection_table.specs.Rows.{CollectionRow, Rows, perhaps_stored, room_in, stored}
use Rattle.service_tables.specs.declared.fate.StoreFate.{StoreFate}
use Rattle.service_tables.specs.declared.fate.StoreFate.TheVariants as fate

-- its content at this moment, with the salt and the iterations of the key
abbrev pub content_under : Inputs → ℕ → ClearPart → Held → Content
content_under key now clear held = content_rekeyed now key.salt key.iterations clear held.rows

-- ---- whether it can be stored

-- whether the file of this content keeps within its limits, of which all files together may grow by `room` bytes
abbrev pub fits_under : Inputs → ℕ → ℕ → File → ClearPart → Held → Bool
fits_under key now room file clear held = nat_le (length (sealed (content_under key now clear held) (key_of key) (vector_of key))) (most_for room file)

-- the same for a collection; one that is locked can't be stored
abbrev pub can_rekey_row : Inputs → ℕ → ℕ → CollectionRow → Bool
can_rekey_row key now room row = option_map_or (fits_under key now room row.file row.clear) row.held false

-- the same for the collection of a stem
abbrev pub can_rekey : Inputs → ℕ → List ℕ → Rows → Bool
can_rekey key now stem rows = option_map_or (can_rekey_row key now (room_in rows)) (value_at stem rows) false

-- ---- what becomes of it

-- an unlocked collection after that, by how it ended: it is unlocked under the new key, as before, or locked and in doubt
abbrev pub held_rekeyed : Inputs → ℕ → StoreFate → CollectionRow → Held → CollectionRow
held_rekeyed key now fate.Stored row held = stored (content_under key now row.clear held) (key_of key) (vector_of key)
held_rekeyed key now fate.Before row held = row
held_rekeyed key now fate.Unsure row held = perhaps_stored (content_under key now row.clear held) (key_of key) (vector_of key) row

-- the same for any collection; nothing is asked of one that is locked
abbrev pub row_rekeyed : Inputs → ℕ → StoreFate → CollectionRow → CollectionRow
row_rekeyed key now fate row = option_map_or (held_rekeyed key now fate row) row.held row

-- the collections after that of a stem was to be stored under the key
abbrev pub rows_rekeyed : List ℕ → Inputs → ℕ → StoreFate → Rows → Rows
rows_rekeyed stem key now fate rows = changed stem (row_rekeyed key now fate) rows
