use Rattle.signal_fanout.specs.Outboxes.{left}
use Rattle.signal_fanout.proofs.BoxLemmas.{changes_one, changes_none}
use Rattle.signal_fanout.proofs.boxes.leave.Goals as goal

-- what is written changes one row
pub returns : goal.returns
returns c = changes_one c.args.conn (left) c.in-Some.outbox.now c.leave.new.self c.args.boxes.now.entries _ c.get_mut.ensures.ordered c.in-Some.ensures.value (c.leave.ensures.row c.args.conn) c.leave.ensures.counts (c.get_mut.follows.holds c.leave.new.self).0

-- no row is there to change
pub returns-in_default : goal.returns-in_default
returns-in_default c = rw c.get_mut.follows.holds-at-none (changes_none c.args.conn (left) c.args.boxes.now.entries c.in_default.ensures.value)
