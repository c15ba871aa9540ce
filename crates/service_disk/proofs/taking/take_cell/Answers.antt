use Rattle.std.proofs.Common.{sym, ap, ◌∙◌}
use Rattle.std.proofs.lemmas.Result.{IfOk-weaker}
use Rattle.service_tables.specs.Disk.{disk_state}
use Rattle.service_disk.proofs.FreeLemmas.{name-free, no-slot, refuses, takes-kept, takes-new}
use Rattle.service_disk.proofs.OpeningLemmas.{on-err}
use Rattle.service_disk.proofs.TakingLemmas.{without-none}
use Rattle.service_disk.proofs.taking.take_cell.Goals as goal

-- the name is free
pub new_cell-requires : goal.new_cell-requires
new_cell-requires g c =
    let folder = g.F.Folder in
    let slots = g.F.Cell.Slot in
    let stem = c.args.stem.now in
    let none = sym c.in-None.ensures.value in
    let unlisted = no-slot stem c.args.disk.now.collections.entries c.requires.unlisted in
    name-free folder.is_honest folder.is_steady folder.faults folder.images folder.may_leave folder.made slots.is_honest slots.is_steady slots.faults slots.left_since slots.may_leave stem
    c.args.name.now (disk_state c.args.disk.now) c.requires.free unlisted none c.requires.name

pub returns-in-Some-clause-taken : goal.returns-in-Some-clause-taken
returns-in-Some-clause-taken g c =
    let folder = g.F.Folder in
    let slots = g.F.Cell.Slot in
    let stem = c.args.stem.now in
    let old = disk_state c.args.disk.now in
    let there = sym c.in-Some.ensures.value in
    let unlisted = no-slot stem c.args.disk.now.collections.entries c.requires.unlisted in
    rw c.into_cell.ensures.slot (takes-kept folder.is_honest folder.is_steady folder.faults folder.images folder.may_leave folder.made slots.is_honest slots.is_steady slots.faults slots.left_since slots.may_leave stem
    c.in-Some.kept old _ c.requires.free unlisted there
    (ap (λ spare. record old { spare = spare }) c.in-Some.ensures.rest))

pub returns-in-None-clause-taken : goal.returns-in-None-clause-taken
returns-in-None-clause-taken g c =
    let folder = g.F.Folder in
    let slots = g.F.Cell.Slot in
    let stem = c.args.stem.now in
    let old = disk_state c.args.disk.now in
    let none = sym c.in-None.ensures.value in
    let unlisted = no-slot stem c.args.disk.now.collections.entries c.requires.unlisted in
    IfOk-weaker c.new_cell.result _ _
    (λ cell made. takes-new folder.is_honest folder.is_steady folder.faults folder.images folder.may_leave folder.made slots.is_honest slots.is_steady slots.faults slots.left_since slots.may_leave stem
    c.args.name.now cell.slot old _ c.new_cell.new.folder unlisted none c.requires.name c.new_cell.ensures.folder made
    (ap (λ spare. record old { folder = c.new_cell.new.folder; spare = spare }) (c.in-None.ensures.rest ∙ without-none stem c.args.disk.now.spare.items (sym c.in-None.ensures.value))))
    c.new_cell.ensures.made

pub returns-in-None-clause-refused : goal.returns-in-None-clause-refused
returns-in-None-clause-refused g c =
    let folder = g.F.Folder in
    let slots = g.F.Cell.Slot in
    let stem = c.args.stem.now in
    let old = disk_state c.args.disk.now in
    on-err c.new_cell.result _ _
    (λ same. refuses folder.is_honest folder.is_steady folder.faults folder.images folder.may_leave folder.made slots.is_honest slots.is_steady slots.faults slots.left_since slots.may_leave stem
    old _ c.new_cell.new.folder c.new_cell.ensures.folder same
    (ap (λ spare. record old { folder = c.new_cell.new.folder; spare = spare }) (c.in-None.ensures.rest ∙ without-none stem c.args.disk.now.spare.items (sym c.in-None.ensures.value))))
    c.new_cell.ensures.none
