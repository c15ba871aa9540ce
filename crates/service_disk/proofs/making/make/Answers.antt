use Rattle.std.proofs.Common.{◌∷◌, ap, ◌∙◌}
use Rattle.key_derivation.specs.Kdf.{key_of, vector_of}
use Rattle.replace_slot.specs.Cell.{CellState}
use Rattle.service_tables.specs.collection_table.specs.Entries.{row_of, rows_of}
use Rattle.service_tables.specs.Disk.{contents_in, disk_state}
use Rattle.service_tables.specs.Opened.{Contents}
use Rattle.service_tables.specs.Slots.{file_at}
use Rattle.service_tables.specs.declared.fate.StoreFate.TheVariants as fate
use Rattle.service_disk.specs.Making.{Plan, content_of}
use Rattle.service_disk.proofs.CreatingLemmas.{created-before, created-stored, created-unsure, file-after, file-before, stores-at}
use Rattle.service_disk.proofs.FreeLemmas.{no-slot}
use Rattle.service_disk.proofs.MadeLemmas.{frees-again, frees-kept, frees-listed, frees-refused, frees-same, keeps-again, makes-kept, makes-listed}
use Rattle.service_disk.proofs.making.make.Goals as goal

-- no memory was left before a slot was taken
pub returns-in_err-name-clause-free : goal.returns-in_err-name-clause-free
returns-in_err-name-clause-free g c =
    let folder = g.F.Folder in
    let slots = g.F.Cell.Slot in
    frees-same folder.is_honest folder.is_steady folder.faults folder.images folder.may_leave folder.made slots.is_honest slots.is_steady slots.faults slots.left_since slots.may_leave c.args.stem
    (disk_state c.args.disk.now) (disk_state c.prepare.new.disk) c.prepare.ensures.disk c.requires.free

pub take_cell-requires-clause-free : goal.take_cell-requires-clause-free
take_cell-requires-clause-free g c = rw c.prepare.ensures.disk (c.requires.free c.args.stem c.requires.unused)

-- or while it was made
pub returns-in_err-cell-clause-free : goal.returns-in_err-cell-clause-free
returns-in_err-cell-clause-free g c =
    let folder = g.F.Folder in
    let slots = g.F.Cell.Slot in
    frees-refused folder.is_honest folder.is_steady folder.faults folder.images folder.may_leave folder.made slots.is_honest slots.is_steady slots.faults slots.left_since slots.may_leave c.args.stem
    (disk_state c.args.disk.now) (disk_state c.prepare.new.disk) (disk_state c.take_cell.new.disk) c.prepare.ensures.disk c.in_err-cell.ensures.refused c.requires.free

-- a slot that is kept has no file
pub keep_used-requires-clause-gone : goal.keep_used-requires-clause-gone
keep_used-requires-clause-gone g c = (rw c.in-Err-FaultBefore.field-0-is at c.in-Err-FaultBefore.ensures.before) ∙ c.in_ok-cell.ensures.file

pub keep-requires-clause-gone : goal.keep-requires-clause-gone
keep-requires-clause-gone g c = ap (λ (cell : CellState _). cell.file) (rw c.in-Err-OutOfMemory.field-0-is at c.in-Err-OutOfMemory.ensures.memory) ∙ c.in_ok-cell.ensures.file

-- it was stored
pub returns-in-Ok-clause-disk : goal.returns-in-Ok-clause-disk
returns-in-Ok-clause-disk g c =
    let folder = g.F.Folder in
    let slots = g.F.Cell.Slot in
    let stem = c.args.stem in
    let before = rows_of c.args.disk.now.collections.entries in
    let after = rows_of c.list.new.disk.collections.entries in
    let plan : Plan = record { label = c.args.label; key = c.args.key; now = c.args.now } in
    let was = c.in_ok-cell.cell.slot in
    let is = c.in-Ok.collection in
    makes-listed folder.is_honest folder.is_steady folder.faults folder.images folder.may_leave folder.made slots.is_honest slots.is_steady slots.faults slots.left_since slots.may_leave stem slots.moment
    fate.Stored before after was is.slot (disk_state c.args.disk.now) (disk_state c.prepare.new.disk) (disk_state c.take_cell.new.disk) (disk_state c.list.new.disk)
    c.prepare.ensures.disk (no-slot stem c.args.disk.now.collections.entries c.requires.unlisted) c.in_ok-cell.ensures.taken c.list.ensures.disk
    (stores-at slots.is_honest slots.is_steady slots.faults slots.moment slots.left_since slots.may_leave g.met.F.Cell.Slot.counts_now g.met.F.Cell.Slot.steady_below
    stem fate.Stored before after _ is.file was is.slot (file-before stem before c.requires.unlisted)
    (ap (λ (contents : Contents). file_at stem contents.collections) c.list.ensures.contents ∙ file-after stem (row_of is) (contents_in c.take_cell.new.disk).collections)
    (created-stored slots.is_honest slots.is_steady slots.faults slots.moment slots.left_since slots.may_leave g.met.F.Cell.Slot.counts_now g.met.F.Cell.Slot.steady_below
    (content_of plan) (key_of c.args.key) (vector_of c.args.key) c.in_ok-cell.cell.file is.file _ was is.slot c.in_ok-cell.ensures.file c.in-Ok.ensures.stored.file c.in-Ok.ensures.any_moment c.in-Ok.ensures.kept c.untouched.ensures.any_moment))

pub returns-in-Ok-clause-free : goal.returns-in-Ok-clause-free
returns-in-Ok-clause-free g c =
    let folder = g.F.Folder in
    let slots = g.F.Cell.Slot in
    frees-listed folder.is_honest folder.is_steady folder.faults folder.images folder.may_leave folder.made slots.is_honest slots.is_steady slots.faults slots.left_since slots.may_leave c.args.stem
    c.in_ok-cell.cell.slot c.in-Ok.collection.slot (disk_state c.args.disk.now) (disk_state c.prepare.new.disk) (disk_state c.take_cell.new.disk) (disk_state c.list.new.disk)
    c.prepare.ensures.disk (no-slot c.args.stem c.args.disk.now.collections.entries c.requires.unlisted) c.in_ok-cell.ensures.taken c.list.ensures.unused c.list.ensures.disk c.requires.free

-- it may have been stored or not
pub returns-in-Err-FaultUnsure-clause-disk : goal.returns-in-Err-FaultUnsure-clause-disk
returns-in-Err-FaultUnsure-clause-disk g c =
    let folder = g.F.Folder in
    let slots = g.F.Cell.Slot in
    let stem = c.args.stem in
    let before = rows_of c.args.disk.now.collections.entries in
    let list = c.list-in-Err-FaultUnsure in
    let after = rows_of list.new.disk.collections.entries in
    let plan : Plan = record { label = c.args.label; key = c.args.key; now = c.args.now } in
    let was = c.in_ok-cell.cell.slot in
    let is = c.in-Err-FaultUnsure.collection in
    makes-listed folder.is_honest folder.is_steady folder.faults folder.images folder.may_leave folder.made slots.is_honest slots.is_steady slots.faults slots.left_since slots.may_leave stem slots.moment
    fate.Unsure before after was is.slot (disk_state c.args.disk.now) (disk_state c.prepare.new.disk) (disk_state c.take_cell.new.disk) (disk_state list.new.disk)
    c.prepare.ensures.disk (no-slot stem c.args.disk.now.collections.entries c.requires.unlisted) c.in_ok-cell.ensures.taken list.ensures.disk
    (stores-at slots.is_honest slots.is_steady slots.faults slots.moment slots.left_since slots.may_leave g.met.F.Cell.Slot.counts_now g.met.F.Cell.Slot.steady_below
    stem fate.Unsure before after _ is.file was is.slot (file-before stem before c.requires.unlisted)
    (ap (λ (contents : Contents). file_at stem contents.collections) list.ensures.contents ∙ file-after stem (row_of is) (contents_in c.take_cell.new.disk).collections)
    (created-unsure slots.is_honest slots.is_steady slots.faults slots.moment slots.left_since slots.may_leave g.met.F.Cell.Slot.counts_now g.met.F.Cell.Slot.steady_below
    (content_of plan) (key_of c.args.key) (vector_of c.args.key) c.in_ok-cell.cell.file is.file was is.slot c.in_ok-cell.ensures.file
    (rw c.in-Err-FaultUnsure.field-0-is at c.in-Err-FaultUnsure.ensures.unsure).0 (rw c.in-Err-FaultUnsure.field-0-is at c.in-Err-FaultUnsure.ensures.any_moment) (rw c.in-Err-FaultUnsure.field-0-is at c.in-Err-FaultUnsure.ensures.kept)))

pub returns-in-Err-FaultUnsure-clause-free : goal.returns-in-Err-FaultUnsure-clause-free
returns-in-Err-FaultUnsure-clause-free g c =
    let folder = g.F.Folder in
    let slots = g.F.Cell.Slot in
    let list = c.list-in-Err-FaultUnsure in
    frees-listed folder.is_honest folder.is_steady folder.faults folder.images folder.may_leave folder.made slots.is_honest slots.is_steady slots.faults slots.left_since slots.may_leave c.args.stem
    c.in_ok-cell.cell.slot c.in-Err-FaultUnsure.collection.slot (disk_state c.args.disk.now) (disk_state c.prepare.new.disk) (disk_state c.take_cell.new.disk) (disk_state list.new.disk)
    c.prepare.ensures.disk (no-slot c.args.stem c.args.disk.now.collections.entries c.requires.unlisted) c.in_ok-cell.ensures.taken list.ensures.unused list.ensures.disk c.requires.free

-- nothing was stored
pub returns-in-Err-FaultBefore-clause-disk : goal.returns-in-Err-FaultBefore-clause-disk
returns-in-Err-FaultBefore-clause-disk g c =
    let folder = g.F.Folder in
    let slots = g.F.Cell.Slot in
    let stem = c.args.stem in
    let before = rows_of c.args.disk.now.collections.entries in
    let after = rows_of c.keep_used.new.disk.collections.entries in
    let was = c.in_ok-cell.cell in
    let is = c.in-Err-FaultBefore.cell.slot in
    let same = ap (λ (contents : Contents). contents.collections) c.keep_used.ensures.contents
    ∙ ap (λ (contents : Contents). contents.collections) c.take_cell.ensures.contents
    ∙ ap (λ (contents : Contents). contents.collections) c.prepare.ensures.contents in
    makes-kept folder.is_honest folder.is_steady folder.faults folder.images folder.may_leave folder.made slots.is_honest slots.is_steady slots.faults slots.left_since slots.may_leave stem slots.moment
    fate.Before before after was.slot is (disk_state c.args.disk.now) (disk_state c.prepare.new.disk) (disk_state c.take_cell.new.disk) (disk_state c.keep_used.new.disk)
    c.prepare.ensures.disk (no-slot stem c.args.disk.now.collections.entries c.requires.unlisted) c.in_ok-cell.ensures.taken c.keep_used.ensures.disk
    (stores-at slots.is_honest slots.is_steady slots.faults slots.moment slots.left_since slots.may_leave g.met.F.Cell.Slot.counts_now g.met.F.Cell.Slot.steady_below
    stem fate.Before before after _ _ was.slot is (file-before stem before c.requires.unlisted) (ap (file_at stem) same ∙ file-before stem before c.requires.unlisted)
    (created-before slots.is_honest slots.is_steady slots.faults slots.moment slots.left_since slots.may_leave g.met.F.Cell.Slot.counts_now g.met.F.Cell.Slot.steady_below
    was.file was.slot is c.in_ok-cell.ensures.file (rw c.in-Err-FaultBefore.field-0-is at c.in-Err-FaultBefore.ensures.old_alone) (rw c.in-Err-FaultBefore.field-0-is at c.in-Err-FaultBefore.ensures.kept)))

pub returns-in-Err-FaultBefore-clause-free : goal.returns-in-Err-FaultBefore-clause-free
returns-in-Err-FaultBefore-clause-free g c =
    let folder = g.F.Folder in
    let slots = g.F.Cell.Slot in
    frees-kept folder.is_honest folder.is_steady folder.faults folder.images folder.may_leave folder.made slots.is_honest slots.is_steady slots.faults slots.left_since slots.may_leave c.args.stem
    c.in_ok-cell.cell.slot c.in-Err-FaultBefore.cell.slot (disk_state c.args.disk.now) (disk_state c.prepare.new.disk) (disk_state c.take_cell.new.disk) (disk_state c.keep_used.new.disk)
    c.prepare.ensures.disk (no-slot c.args.stem c.args.disk.now.collections.entries c.requires.unlisted) c.in_ok-cell.ensures.taken c.keep_used.ensures.unused c.keep_used.ensures.disk c.requires.free

-- no memory was left once a slot was taken
pub returns-in-Err-OutOfMemory-clause-free : goal.returns-in-Err-OutOfMemory-clause-free
returns-in-Err-OutOfMemory-clause-free g c =
    let folder = g.F.Folder in
    let slots = g.F.Cell.Slot in
    let stem = c.args.stem in
    let mid = disk_state c.take_cell.new.disk in
    frees-again folder.is_honest folder.is_steady folder.faults folder.images folder.may_leave folder.made slots.is_honest slots.is_steady slots.faults slots.left_since slots.may_leave stem
    c.in_ok-cell.cell.slot (disk_state c.args.disk.now) (disk_state c.prepare.new.disk) mid (disk_state c.keep.new.disk)
    c.prepare.ensures.disk (no-slot stem c.args.disk.now.collections.entries c.requires.unlisted) c.in_ok-cell.ensures.taken
    (c.keep.ensures.disk ∙ ap (λ (cell : CellState _). record mid { spare = (stem, cell.slot) ∷ mid.spare }) (rw c.in-Err-OutOfMemory.field-0-is at c.in-Err-OutOfMemory.ensures.memory)) c.requires.free

pub returns-in-Err-OutOfMemory-clause-kept : goal.returns-in-Err-OutOfMemory-clause-kept
returns-in-Err-OutOfMemory-clause-kept g c =
    let folder = g.F.Folder in
    let slots = g.F.Cell.Slot in
    let stem = c.args.stem in
    let mid = disk_state c.take_cell.new.disk in
    keeps-again folder.is_honest folder.is_steady folder.faults folder.images folder.may_leave folder.made slots.is_honest slots.is_steady slots.faults slots.left_since slots.may_leave stem
    c.in_ok-cell.cell.slot (disk_state c.args.disk.now) (disk_state c.prepare.new.disk) mid (disk_state c.keep.new.disk)
    c.prepare.ensures.disk (no-slot stem c.args.disk.now.collections.entries c.requires.unlisted) c.in_ok-cell.ensures.taken
    (c.keep.ensures.disk ∙ ap (λ (cell : CellState _). record mid { spare = (stem, cell.slot) ∷ mid.spare }) (rw c.in-Err-OutOfMemory.field-0-is at c.in-Err-OutOfMemory.ensures.memory))
