use Rattle.std.proofs.Common.{None}
use Rattle.kr_outside.proofs.MomentLemmas.{LeavesOnly-none}
use Rattle.replace_slot.specs.Cell.{Known, IsOneOf}
use Rattle.service_tables.proofs.kept.KeptSlot.untouched.Goals as goal

-- what a crash might have left since the present moment is what it may leave now
pub returns : goal.returns
returns g c =
    let slot = g.S.Slot in
    rw (← c.self.view_is) (λ honest. LeavesOnly-none slot.moment slot.left_since slot.may_leave c.self.inside.slot (IsOneOf (Known None))
    (λ image left. c.self.invariant honest image (g.met.S.Slot.only_now c.self.inside.slot image honest left)))
