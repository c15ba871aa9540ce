use Rattle.std.proofs.Common.{◌∙◌, subst}
use Rattle.dbus_framing.specs.Streams.{BreaksNone}
use Rattle.connection_worker.specs.Streams.{input_of}
use Rattle.connection_worker.specs.Serving.{world}
use Rattle.connection_worker.proofs.ReaderLemmas.{read-none, read-through, read-more, hands-end, feeds-no-more}
use Rattle.connection_worker.proofs.reading.read_by.Goals as goal

pub loop-init : goal.loop-init
loop-init g c = read-none c.args.framer _ _

-- the source stays open
pub feed_more-requires-clause-input_open : goal.feed_more-requires-clause-input_open
feed_more-requires-clause-input_open g c = c.loop.invariant.took.closed ∙ c.requires.input_open

-- handing in the calls ended the whole
pub returns-in-Err : goal.returns-in-Err
returns-in-Err g c =
    let told = g.D.Desk.told in
    let coming = g.C.Clock.coming in
    let source = g.I.Source in
    hands-end c.args.framer (input_of source.left source.faults source.is_steady source.is_closed c.args.input.now) (input_of source.left source.faults source.is_steady source.is_closed c.loop.input) c.loop.framer
    c.hand_in_all.new.framer (world told g.D.Desk.has_seen coming c.args.desk.now c.args.clock.now c.args.salts.now) (world told g.D.Desk.has_seen coming c.loop.desk c.loop.clock c.loop.salts)
    (world told g.D.Desk.has_seen coming c.hand_in_all.new.desk c.hand_in_all.new.clock c.hand_in_all.new.salts) c.in-Err.end c.requires.most c.loop.invariant c.in-Err.ensures

-- no more bytes were read
pub returns-in-Err-feed_more : goal.returns-in-Err-feed_more
returns-in-Err-feed_more g c =
    let told = g.D.Desk.told in
    let coming = g.C.Clock.coming in
    let source = g.I.Source in
    let handed = c.in_default.ensures in
    let from = input_of source.left source.faults source.is_steady source.is_closed c.args.input.now in
    let now = input_of source.left source.faults source.is_steady source.is_closed c.loop.input in
    let later = input_of source.left source.faults source.is_steady source.is_closed c.feed_more.new.input in
    let old = world told g.D.Desk.has_seen coming c.args.desk.now c.args.clock.now c.args.salts.now in
    let mid = world told g.D.Desk.has_seen coming c.loop.desk c.loop.clock c.loop.salts in
    let new = world told g.D.Desk.has_seen coming c.hand_in_all.new.desk c.hand_in_all.new.clock c.hand_in_all.new.salts in
    feeds-no-more c.args.framer from now later c.hand_in_all.new.framer c.feed_more.new.framer old new c.in-Err-feed_more.end c.requires.most
    (read-through c.args.framer from now c.loop.framer c.hand_in_all.new.framer old mid new c.loop.invariant handed.2 handed.0 handed.1)
    (subst (λ m. BreaksNone m c.hand_in_all.new.framer.rest) (c.loop.invariant.most ∙ c.requires.most) handed.3) c.in-Err-feed_more.ensures

-- more bytes were read
pub loop-preserved : goal.loop-preserved
loop-preserved g c =
    let told = g.D.Desk.told in
    let coming = g.C.Clock.coming in
    let source = g.I.Source in
    let handed = c.in_default.ensures in
    let from = input_of source.left source.faults source.is_steady source.is_closed c.args.input.now in
    let now = input_of source.left source.faults source.is_steady source.is_closed c.loop.input in
    let later = input_of source.left source.faults source.is_steady source.is_closed c.feed_more.new.input in
    let old = world told g.D.Desk.has_seen coming c.args.desk.now c.args.clock.now c.args.salts.now in
    let mid = world told g.D.Desk.has_seen coming c.loop.desk c.loop.clock c.loop.salts in
    let new = world told g.D.Desk.has_seen coming c.hand_in_all.new.desk c.hand_in_all.new.clock c.hand_in_all.new.salts in
    read-more c.args.framer from now later c.hand_in_all.new.framer c.feed_more.new.framer old new
    (read-through c.args.framer from now c.loop.framer c.hand_in_all.new.framer old mid new c.loop.invariant handed.2 handed.0 handed.1) c.in_default-feed_more.ensures
