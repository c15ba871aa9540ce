use Rattle.std.proofs.Common.{sym, ◌∙◌, ap, subst, ◌<◌, length, arith}
use Rattle.replace_slot.specs.Cell.{IsKnown, longest_of}
use Rattle.replace_slot.specs.Found.{IsFoundOf}
use Rattle.replace_slot.proofs.FoundLemmas.{found_alone, found_of}
use Rattle.replace_slot.proofs.cell.FileCell.resolve.Goals as goal

-- the image that was read is the only one that a crash leaves
pub invariant_of-self : goal.invariant_of-self
invariant_of-self g c honest =
    let was = sym c.settle.ensures.kept.honest ∙ honest in
    let file_is = ap (λ s. s.file) c.self.view_is in
    rw c.find.ensures.found (found_alone c.self.inside.file (g.S.Slot.seen c.settle.new.slot) c.in-Ok.seen c.settle.new.buffer c.find.result _ _
    (subst (λ f. ¬ (IsKnown f)) (sym file_is) c.requires.doubt) (subst (λ f. longest_of f < length c.settle.new.buffer) (sym file_is) (omega (arith, c.requires.room)))
    (c.self.invariant was) (c.settle.ensures.look.crash was _ (g.met.S.Slot.may_leave_seen c.settle.new.slot honest))
    (c.in-Ok.ensures.answer was) c.find.ensures.gave (c.in-Ok.ensures.settled was))

pub returns-in-Ok-clause-crash : goal.returns-in-Ok-clause-crash
returns-in-Ok-clause-crash g c honest = invariant_of-self g c honest

-- the result of the read decides
pub returns-in-Ok-clause-by_read : goal.returns-in-Ok-clause-by_read
returns-in-Ok-clause-by_read g c = rw (← c.self.view_is) (record {
  answer = c.in-Ok.seen;
  told = c.in-Ok.ensures.told;
  fits = c.in-Ok.ensures.fits;
  decided = c.find.ensures.gave;
})

-- and so does what the name stands for
pub returns-in-Ok-clause-by_name : goal.returns-in-Ok-clause-by_name
returns-in-Ok-clause-by_name g c = rw (← c.self.view_is) (λ was.
    let file_is = ap (λ s. s.file) c.self.view_is in
    let honest = c.settle.ensures.kept.honest ∙ was in
    subst (λ i. IsFoundOf i c.find.result c.self.inside.file) (c.settle.ensures.look.same was)
    (found_of c.self.inside.file (g.S.Slot.seen c.settle.new.slot) c.in-Ok.seen c.settle.new.buffer c.find.result _
    (subst (λ f. ¬ (IsKnown f)) (sym file_is) c.requires.doubt) (subst (λ f. longest_of f < length c.settle.new.buffer) (sym file_is) (omega (arith, c.requires.room)))
    (c.self.invariant was) (c.settle.ensures.look.crash was _ (g.met.S.Slot.may_leave_seen c.settle.new.slot honest))
    (c.in-Ok.ensures.answer was) c.find.ensures.gave))
