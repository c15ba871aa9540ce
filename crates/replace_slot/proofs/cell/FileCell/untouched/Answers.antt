use Rattle.kr_outside.proofs.MomentLemmas.{LeavesOnly-none}
use Rattle.replace_slot.specs.Cell.{IsOneOf}
use Rattle.replace_slot.proofs.cell.FileCell.untouched.Goals as goal

-- what a crash might have left since the present moment is what it may leave now
pub returns : goal.returns
returns g c = record {
  any_moment = λ honest. LeavesOnly-none g.S.Slot.moment g.S.Slot.left_since g.S.Slot.may_leave c.args.self.now.slot (IsOneOf c.args.self.now.file)
      (λ image left. c.is_known-known.ensures.crash honest image (g.met.S.Slot.only_now c.args.self.now.slot image honest left));
}
