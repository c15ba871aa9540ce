use Rattle.signal_fanout.proofs.BoxLemmas.{kept_same}
use Rattle.signal_fanout.proofs.outboxes.Outboxes.reserve_for.Goals as goal

pub invariant_of-self : goal.invariant_of-self
invariant_of-self c = kept_same c.self.inside.boxes.entries c.reserve_for.new.boxes.entries c.self.invariant c.reserve_for.ensures.same

pub returns-clause-unchanged : goal.returns-clause-unchanged
returns-clause-unchanged c = rw (← c.self.view_is) c.reserve_for.ensures.same.rows

pub returns-clause-kept : goal.returns-clause-kept
returns-clause-kept c = λ count conn room. c.reserve_for.ensures.same.rooms count conn (rw (← c.self.view_is) at room)
