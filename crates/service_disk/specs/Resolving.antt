-- What becomes of the collections once the file of one of them was to be read again, of which two images are known (docs/SERVICE.md,
-- "Prompts").
use Rattle.std.specs.Prelude.{ℕ, Bool, true, false, if◌then◌else◌, List, None}
use Rattle.std.specs.Option.{is_some}
use Rattle.replace_slot.specs.Cell.{File, old_image}
use Rattle.replace_slot.specs.Found.{found_file}
use Rattle.replace_slot.specs.declared.images.Found.{Found}
use Rattle.replace_slot.specs.declared.images.Found.TheVariants as image
use Rattle.service_tables.specs.collection_store.specs.State.{told_after}
use Rattle.service_tables.specs.collection_table.specs.Entries.{changed, without}
use Rattle.service_tables.specs.collection_table.specs.Rows.{CollectionRow, Rows}
use Rattle.service_tables.specs.Aliases.{is_doubt}
use Rattle.service_tables.specs.Slots.{file_at}
use Rattle.service_tables.specs.declared.fate.ReadFate.{ReadFate}
use Rattle.service_tables.specs.declared.fate.ReadFate.TheVariants as fate
use Rattle.service_disk.specs.declared.resolving.Reread.{Reread}
use Rattle.service_disk.specs.declared.resolving.Reread.TheVariants as reread

-- whether there is a collection of the stem, and two images of its file are known, of which it has one
abbrev pub is_doubtful : List ℕ → Rows → Bool
is_doubtful stem rows = is_doubt (file_at stem rows)

-- ---- one collection

-- a collection in doubt after this was found: its file is known, and it is locked
abbrev pub row_found : Found → CollectionRow → CollectionRow
row_found found row = record {
  file = found_file found row.file;
  clear = told_after found row.clear row.other;
  other = None;
  held = None;
}

-- the same by how the resolve ended; a file that couldn't be read stays in doubt
abbrev pub row_resolved : ReadFate → CollectionRow → CollectionRow
row_resolved fate.Old row = row_found image.Old row
row_resolved fate.New row = row_found image.New row
row_resolved fate.Other row = row_found image.Other row
row_resolved fate.ReadFailed row = row

-- whether the image that was found is a file
abbrev pub is_file : Found → File → Bool
is_file found file = is_some (old_image (found_file found file))

-- whether the collection is still there: the image that was found is a file, or nothing was read. One whose file has neither of its images
-- goes.
abbrev pub stays : ReadFate → File → Bool
stays fate.Old file = is_file image.Old file
stays fate.New file = is_file image.New file
stays fate.Other file = false
stays fate.ReadFailed file = true

-- how the resolve of one collection's file ended
abbrev pub fate_in : Reread → ReadFate
fate_in (reread.Stays fate) = fate
fate_in (reread.Goes fate) = fate

-- whether the collection is still there
abbrev pub is_left : Reread → Bool
is_left (reread.Stays fate) = true
is_left (reread.Goes fate) = false

-- ---- all collections

-- the collections after one of its two images was found of the file of a stem: if that image is no file, the collection goes
abbrev pub rows_found : List ℕ → Found → Rows → Rows
rows_found stem found rows = if is_file found (file_at stem rows) then changed stem (row_found found) rows else without stem rows

-- the collections after the file of a stem was to be read again, by how that ended; if it has neither of its images, the collection goes
abbrev pub rows_resolved : List ℕ → ReadFate → Rows → Rows
rows_resolved stem fate.Old rows = rows_found stem image.Old rows
rows_resolved stem fate.New rows = rows_found stem image.New rows
rows_resolved stem fate.Other rows = without stem rows
rows_resolved stem fate.ReadFailed rows = rows
