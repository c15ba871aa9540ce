use Rattle.signal_fanout.proofs.BoxLemmas.{kept_after}
use Rattle.signal_fanout.proofs.outboxes.Outboxes.take.Goals as goal

pub invariant_of-self : goal.invariant_of-self
invariant_of-self c = kept_after c.args.conn.0 _ c.self.inside.boxes.entries c.take.new.boxes.entries c.self.invariant c.take.ensures.changes

pub returns-clause-rows : goal.returns-clause-rows
returns-clause-rows c = rw (← c.self.view_is) c.take.ensures.changes.rows

pub returns-clause-outs : goal.returns-clause-outs
returns-clause-outs c = rw (← c.self.view_is) c.take.ensures.outs

pub returns-clause-nothing : goal.returns-clause-nothing
returns-clause-nothing c = rw (← c.self.view_is) c.take.ensures.nothing
