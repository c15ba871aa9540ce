use Rattle.signal_fanout.proofs.BoxLemmas.{kept_after}
use Rattle.signal_fanout.proofs.RoomLemmas.{spent-for}
use Rattle.signal_fanout.proofs.outboxes.Outboxes.push.Goals as goal

pub invariant_of-self : goal.invariant_of-self
invariant_of-self c = kept_after c.args.conn.0 _ c.self.inside.boxes.entries c.put.new.boxes.entries c.self.invariant c.put.ensures.changes

pub returns-clause-rows : goal.returns-clause-rows
returns-clause-rows c = rw (← c.self.view_is) c.put.ensures.changes.rows

-- room for one output is spent
pub returns-clause-room : goal.returns-clause-room
returns-clause-room c = λ outs room. spent-for (record { to = c.args.conn; out = c.args.out }) outs _ _ c.put.ensures.spent (rw (← c.self.view_is) at room)

pub put-requires-clause-room : goal.put-requires-clause-room
put-requires-clause-room c = rw (← c.self.view_is) at c.requires
