use Rattle.std.proofs.Common.{[], None, refl, ap, ◌∙◌}
use Rattle.service_calls.specs.Rows.{disk_of, rows_of}
use Rattle.service_calls.proofs.LeadsLemmas.{leads-done, leads-read}
use Rattle.service_calls.proofs.tables.Tables.answered.Goals as goal

-- what is read is answered unless it is too large, and nothing changes
pub returns-clause-leads : goal.returns-clause-leads
returns-clause-leads g c = λ conn brought plan is.
    let folder = g.F.Folder in
    let slot = g.F.Cell.Slot in
    let old = rows_of c.args.self.now in
    let disk = disk_of c.args.self.now in
    leads-done folder.is_honest folder.is_steady folder.faults folder.images folder.may_leave folder.made slot.is_honest slot.is_steady slot.faults slot.moment slot.left_since slot.may_leave conn brought old old disk disk plan _ _
    (c.unstored.ensures ∙ ap (λ answer. record { answer = answer; sends = []; read = None; fate = None }) c.bounded.ensures)
    (leads-read folder.is_honest folder.is_steady folder.faults folder.images folder.may_leave folder.made slot.is_honest slot.is_steady slot.faults slot.moment slot.left_since slot.may_leave conn brought old old disk disk plan c.args.answer is refl refl)
