use Rattle.std.proofs.Common.{◌∙◌}
use Rattle.signal_fanout.proofs.BoxLemmas.{kept_after, changed-same}
use Rattle.signal_fanout.proofs.outboxes.Outboxes.reserve.Goals as goal

pub invariant_of-self : goal.invariant_of-self
invariant_of-self c = kept_after c.args.conn.0 _ c.self.inside.boxes.entries c.reserve.new.boxes.entries c.self.invariant c.reserve.ensures.changes

pub returns-clause-unchanged : goal.returns-clause-unchanged
returns-clause-unchanged c = rw (← c.self.view_is) (c.reserve.ensures.changes.rows ∙ changed-same c.args.conn.0 _)

pub returns-clause-kept : goal.returns-clause-kept
returns-clause-kept c = λ count conn room. c.reserve.ensures.kept count conn (rw (← c.self.view_is) at room)
