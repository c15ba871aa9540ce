use Rattle.std.proofs.Common.{sym, ◌∙◌, ap, subst}
use Rattle.replace_slot.specs.Cell.{HasFile, old_image}
use Rattle.replace_slot.proofs.CellLemmas.{known_file, known_only}
use Rattle.replace_slot.proofs.cell.FileCell.remove.Goals as goal

-- the folder was synced: no file is left
pub invariant_of-self : goal.invariant_of-self
invariant_of-self g c honest =
    let was = sym c.retire.ensures.kept.honest ∙ honest in
    let known = known_file c.self.inside.file (subst HasFile (sym (ap (λ s. s.file) c.self.view_is)) c.requires) in
    rw c.set.ensures (c.in-Ok.ensures.removed (old_image c.self.inside.file) was (known_only c.self.inside.file _ known (c.self.invariant was)))

pub returns-in-Ok-clause-crash : goal.returns-in-Ok-clause-crash
returns-in-Ok-clause-crash g c honest = invariant_of-self g c honest

pub returns-in-Ok-clause-any_moment : goal.returns-in-Ok-clause-any_moment
returns-in-Ok-clause-any_moment g c = rw (← c.self.view_is) (λ was.
    let known = known_file c.self.inside.file (subst HasFile (sym (ap (λ s. s.file) c.self.view_is)) c.requires) in
    c.retire.ensures.any_moment (old_image c.self.inside.file) was (known_only c.self.inside.file _ known (c.self.invariant was)))

-- it was not, or the name stayed: the old image or no file is left
pub invariant_of-self-in-Err : goal.invariant_of-self-in-Err
invariant_of-self-in-Err g c honest =
    let was = sym c.retire.ensures.kept.honest ∙ honest in
    let known = known_file c.self.inside.file (subst HasFile (sym (ap (λ s. s.file) c.self.view_is)) c.requires) in
    rw c.doubt.ensures (c.retire.ensures.crash (old_image c.self.inside.file) was (known_only c.self.inside.file _ known (c.self.invariant was)))

pub returns-in-Err-clause-crash : goal.returns-in-Err-clause-crash
returns-in-Err-clause-crash g c honest = invariant_of-self-in-Err g c honest

pub returns-in-Err-clause-any_moment : goal.returns-in-Err-clause-any_moment
returns-in-Err-clause-any_moment g c = rw (← c.self.view_is) (λ was.
    let known = known_file c.self.inside.file (subst HasFile (sym (ap (λ s. s.file) c.self.view_is)) c.requires) in
    c.retire.ensures.any_moment (old_image c.self.inside.file) was (known_only c.self.inside.file _ known (c.self.invariant was)))
