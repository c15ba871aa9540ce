use Rattle.std.proofs.Common.{sym}
use Rattle.signal_fanout.specs.Boxes.{IsReady}
use Rattle.signal_fanout.proofs.BoxLemmas.{changes_one, changes_none}
use Rattle.signal_fanout.proofs.RoomLemmas.{keep-set}
use Rattle.signal_fanout.proofs.ReadyLemmas.{none-holds, ready-here, ready-others}
use Rattle.signal_fanout.proofs.boxes.expect_none.Goals as goal

-- what is written changes no row
pub returns-clause-changes : goal.returns-clause-changes
returns-clause-changes c = changes_one c.args.conn (λ row. row) c.in-Some.outbox.now c.expect_none.new.self c.args.boxes.now.entries _ c.get_mut.ensures.ordered c.in-Some.ensures.value (c.expect_none.ensures.row c.args.conn) c.expect_none.ensures.counts (c.get_mut.follows.holds c.expect_none.new.self).0

pub returns-in_default-clause-changes : goal.returns-in_default-clause-changes
returns-in_default-clause-changes c = rw c.get_mut.follows.holds-at-none (changes_none c.args.conn (λ row. row) c.args.boxes.now.entries c.in_default.ensures.value)

pub returns-clause-ready : goal.returns-clause-ready
returns-clause-ready c = rw (c.get_mut.follows.holds c.expect_none.new.self).0 (ready-here c.args.conn c.in-Some.outbox.now c.expect_none.new.self c.args.boxes.now.entries c.get_mut.ensures.ordered (sym c.in-Some.ensures.value) c.expect_none.ensures.ready)

pub returns-in_default-clause-ready : goal.returns-in_default-clause-ready
returns-in_default-clause-ready c = rw c.get_mut.follows.holds-at-none (none-holds (IsReady 0) c.args.conn c.args.boxes.now.entries (sym c.in_default.ensures.value))

pub returns-clause-others : goal.returns-clause-others
returns-clause-others c = λ other all.
    rw (c.get_mut.follows.holds c.expect_none.new.self).0 (ready-others c.args.conn other c.in-Some.outbox.now c.expect_none.new.self c.args.boxes.now.entries c.get_mut.ensures.ordered (sym c.in-Some.ensures.value) c.expect_none.ensures.ready all)

pub returns-in_default-clause-others : goal.returns-in_default-clause-others
returns-in_default-clause-others c = rw c.get_mut.follows.holds-at-none (λ other all. all)

-- no room falls
pub returns-clause-kept : goal.returns-clause-kept
returns-clause-kept c = rw (c.get_mut.follows.holds c.expect_none.new.self).0 (keep-set c.args.conn c.in-Some.outbox.now c.expect_none.new.self c.args.boxes.now.entries (sym c.in-Some.ensures.value) c.expect_none.ensures.kept)

pub returns-in_default-clause-kept : goal.returns-in_default-clause-kept
returns-in_default-clause-kept c = rw c.get_mut.follows.holds-at-none (λ count conn room. room)
