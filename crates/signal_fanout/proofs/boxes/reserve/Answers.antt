use Rattle.std.proofs.Common.{sym, ◌≤◌}
use Rattle.signal_fanout.specs.Boxes.{room_in}
use Rattle.signal_fanout.proofs.BoxLemmas.{changes_one, changes_none, OnOk-more}
use Rattle.signal_fanout.proofs.RoomLemmas.{keep-set, room-none, room-set}
use Rattle.signal_fanout.proofs.boxes.reserve.Goals as goal

-- what is written changes one row
pub returns-clause-changes : goal.returns-clause-changes
returns-clause-changes c = changes_one c.args.conn (λ row. row) c.in-Some.outbox.now c.reserve.new.self c.args.boxes.now.entries _ c.get_mut.ensures.ordered c.in-Some.ensures.value (c.reserve.ensures.row c.args.conn) c.reserve.ensures.counts (c.get_mut.follows.holds c.reserve.new.self).0

-- no row is there to change
pub returns-in_default-clause-changes : goal.returns-in_default-clause-changes
returns-in_default-clause-changes c = rw c.get_mut.follows.holds-at-none (changes_none c.args.conn (λ row. row) c.args.boxes.now.entries c.in_default.ensures.value)

pub returns-clause-room : goal.returns-clause-room
returns-clause-room c =
    let set = λ (room : c.args.more ≤ room_in c.reserve.new.self). room-set c.args.more c.args.conn c.in-Some.outbox.now c.reserve.new.self c.args.boxes.now.entries c.get_mut.ensures.ordered (sym c.in-Some.ensures.value) room in
    OnOk-more c.reserve.result _ _ (λ room. rw (c.get_mut.follows.holds c.reserve.new.self).0 (set room)) c.reserve.ensures.room

pub returns-in_default-clause-room : goal.returns-in_default-clause-room
returns-in_default-clause-room c = rw c.get_mut.follows.holds-at-none (room-none c.args.more c.args.conn c.args.boxes.now.entries (sym c.in_default.ensures.value))

-- no room falls
pub returns-clause-kept : goal.returns-clause-kept
returns-clause-kept c = rw (c.get_mut.follows.holds c.reserve.new.self).0 (keep-set c.args.conn c.in-Some.outbox.now c.reserve.new.self c.args.boxes.now.entries (sym c.in-Some.ensures.value) c.reserve.ensures.kept)

pub returns-in_default-clause-kept : goal.returns-in_default-clause-kept
returns-in_default-clause-kept c = rw c.get_mut.follows.holds-at-none (λ count conn room. room)
