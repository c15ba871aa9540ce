use Rattle.std.proofs.Common.{sym}
use Rattle.signal_fanout.proofs.BoxLemmas.{changes_one, changes_none, OnOk-more}
use Rattle.signal_fanout.proofs.RoomLemmas.{keep-set}
use Rattle.signal_fanout.proofs.ReadyLemmas.{ready-more, ready-none}
use Rattle.signal_fanout.proofs.boxes.expect_one.Goals as goal

-- what is written changes no row
pub returns-clause-changes : goal.returns-clause-changes
returns-clause-changes c = changes_one c.args.conn (λ row. row) c.in-Some.outbox.now c.expect_one.new.self c.args.boxes.now.entries _ c.get_mut.ensures.ordered c.in-Some.ensures.value (c.expect_one.ensures.row c.args.conn) c.expect_one.ensures.counts (c.get_mut.follows.holds c.expect_one.new.self).0

pub returns-in_default-clause-changes : goal.returns-in_default-clause-changes
returns-in_default-clause-changes c = rw c.get_mut.follows.holds-at-none (changes_none c.args.conn (λ row. row) c.args.boxes.now.entries c.in_default.ensures.value)

-- one more is expected of the connection, and as many as before of the others
pub returns-clause-ready : goal.returns-clause-ready
returns-clause-ready c =
    OnOk-more c.expect_one.result _ _
    (λ grows count other all.
    rw (c.get_mut.follows.holds c.expect_one.new.self).0
    (ready-more count c.args.conn other c.in-Some.outbox.now c.expect_one.new.self c.args.boxes.now.entries c.get_mut.ensures.ordered (sym c.in-Some.ensures.value) grows all))
    c.expect_one.ensures.ready

pub returns-in_default-clause-ready : goal.returns-in_default-clause-ready
returns-in_default-clause-ready c = rw c.get_mut.follows.holds-at-none (λ count other all. ready-none count c.args.conn other c.args.boxes.now.entries (sym c.in_default.ensures.value) all)

-- no room falls
pub returns-clause-kept : goal.returns-clause-kept
returns-clause-kept c = rw (c.get_mut.follows.holds c.expect_one.new.self).0 (keep-set c.args.conn c.in-Some.outbox.now c.expect_one.new.self c.args.boxes.now.entries (sym c.in-Some.ensures.value) c.expect_one.ensures.kept)

pub returns-in_default-clause-kept : goal.returns-in_default-clause-kept
returns-in_default-clause-kept c = rw c.get_mut.follows.holds-at-none (λ count conn room. room)
