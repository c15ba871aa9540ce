use Rattle.std.proofs.Common.{map, sym}
use Rattle.signal_fanout.specs.Outboxes.{with_out}
use Rattle.signal_fanout.proofs.BoxLemmas.{changes_one, changes_none, counts_of-kept}
use Rattle.signal_fanout.specs.Boxes.{room_of}
use Rattle.signal_fanout.proofs.RoomLemmas.{room-kept, spends-none, spends-set}
use Rattle.signal_fanout.proofs.boxes.put.Goals as goal

-- what is written changes one row
pub returns-clause-changes : goal.returns-clause-changes
returns-clause-changes c = changes_one c.args.conn (with_out c.args.out) c.in-Some.outbox.now c.put.new.self c.args.boxes.now.entries _ c.get_mut.ensures.ordered c.in-Some.ensures.value (c.put.ensures.row c.args.conn) (λ counts. c.put.ensures.counts) (c.get_mut.follows.holds c.put.new.self).0

-- no row is there to change
pub returns-in_default-clause-changes : goal.returns-in_default-clause-changes
returns-in_default-clause-changes c = rw c.get_mut.follows.holds-at-none (changes_none c.args.conn (with_out c.args.out) c.args.boxes.now.entries c.in_default.ensures.value)

pub put-requires-clause-room : goal.put-requires-clause-room
put-requires-clause-room c = room-kept 1 c.args.conn c.in-Some.outbox.now c.args.boxes.now.entries (sym c.in-Some.ensures.value) c.requires.room

pub put-requires-clause-counts : goal.put-requires-clause-counts
put-requires-clause-counts c = counts_of-kept c.args.conn c.in-Some.outbox.now c.args.boxes.now.entries c.requires.counts (sym c.in-Some.ensures.value)

-- room for one output is spent
pub returns-clause-spent : goal.returns-clause-spent
returns-clause-spent c = rw (c.get_mut.follows.holds c.put.new.self).0 (spends-set c.args.conn c.in-Some.outbox.now c.put.new.self c.args.boxes.now.entries (sym c.in-Some.ensures.value) c.put.ensures.left)

pub returns-in_default-clause-spent : goal.returns-in_default-clause-spent
returns-in_default-clause-spent c = rw c.get_mut.follows.holds-at-none (spends-none (record { 0 = c.args.conn }) (map room_of c.args.boxes.now.entries))
