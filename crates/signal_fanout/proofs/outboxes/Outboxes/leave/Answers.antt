use Rattle.signal_fanout.proofs.BoxLemmas.{kept_after}
use Rattle.signal_fanout.proofs.outboxes.Outboxes.leave.Goals as goal

pub invariant_of-self : goal.invariant_of-self
invariant_of-self c = kept_after c.args.conn.0 _ c.self.inside.boxes.entries c.leave.new.boxes.entries c.self.invariant c.leave.ensures

pub returns : goal.returns
returns c = record { rows = rw (← c.self.view_is) c.leave.ensures.rows }
