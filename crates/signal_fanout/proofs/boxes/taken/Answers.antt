use Rattle.std.proofs.Common.{sym, ◌∙◌}
use Rattle.signal_fanout.specs.Outboxes.{emptied}
use Rattle.signal_fanout.proofs.BoxLemmas.{changes_one, changes_none, waiting_for-some, waiting_for-none}
use Rattle.signal_fanout.proofs.boxes.taken.Goals as goal

-- what is written changes one row
pub returns-clause-changes : goal.returns-clause-changes
returns-clause-changes c = changes_one c.args.conn (emptied) c.in-Some.outbox.now c.take.new.self c.args.boxes.now.entries _ c.get_mut.ensures.ordered c.in-Some.ensures.value (c.take.ensures.row c.args.conn) (λ counts. c.take.ensures.counts) (c.get_mut.follows.holds c.take.new.self).0

-- no row is there to change
pub returns-in_default-clause-changes : goal.returns-in_default-clause-changes
returns-in_default-clause-changes c = rw c.get_mut.follows.holds-at-none (changes_none c.args.conn (emptied) c.args.boxes.now.entries c.in_default.ensures.value)

pub returns-clause-outs : goal.returns-clause-outs
returns-clause-outs c = c.take.ensures.outs ∙ sym (waiting_for-some c.args.conn c.in-Some.outbox.now c.args.boxes.now.entries (sym c.in-Some.ensures.value))

pub returns-in_default-clause-outs : goal.returns-in_default-clause-outs
returns-in_default-clause-outs c = c.new.ensures.items ∙ sym (waiting_for-none c.args.conn c.args.boxes.now.entries (sym c.in_default.ensures.value))
