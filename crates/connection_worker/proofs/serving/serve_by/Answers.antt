use Rattle.std.proofs.Common.{◌∙◌, subst}
use Rattle.dbus_framing.specs.Streams.{BreaksNone}
use Rattle.connection_worker.specs.Streams.{input_of, output_of}
use Rattle.connection_worker.specs.Serving.{world}
use Rattle.connection_worker.proofs.ServeLemmas.{amid-none, through, amid-more, answers-end, feeds-end}
use Rattle.connection_worker.proofs.serving.serve_by.Goals as goal

pub loop-init : goal.loop-init
loop-init g c = rw c.new-serials.ensures (amid-none c.args.framer _ _ _ c.requires.idle)

-- the desk stays alone, and nothing waits between two messages
pub answer_messages-answered-requires-clause-alone : goal.answer_messages-answered-requires-clause-alone
answer_messages-answered-requires-clause-alone g c = c.loop.invariant.going.answered.recorded.calls.same.alone ∙ c.requires.alone

pub answer_messages-answered-requires-clause-idle : goal.answer_messages-answered-requires-clause-idle
answer_messages-answered-requires-clause-idle g c = c.loop.invariant.going.answered.idle

-- serving the messages ended the whole
pub returns-in-Err : goal.returns-in-Err
returns-in-Err g c =
    let told = g.D.Desk.told in
    let coming = g.C.Clock.coming in
    let source = g.I.Source in
    let sink = g.O.Sink in
    answers-end c.args.framer (input_of source.left source.faults source.is_steady source.is_closed c.args.input.now) (input_of source.left source.faults source.is_steady source.is_closed c.loop.input) c.loop.framer
    c.answer_messages-answered.new.framer (world told g.D.Desk.has_seen coming c.args.desk.now c.args.clock.now c.args.salts.now) (world told g.D.Desk.has_seen coming c.loop.desk c.loop.clock c.loop.salts)
    (world told g.D.Desk.has_seen coming c.answer_messages-answered.new.desk c.answer_messages-answered.new.clock c.answer_messages-answered.new.salts) c.loop.serials c.answer_messages-answered.new.serials
    (output_of sink.written sink.faults sink.is_steady sink.is_closed c.args.output.now) (output_of sink.written sink.faults sink.is_steady sink.is_closed c.loop.output)
    (output_of sink.written sink.faults sink.is_steady sink.is_closed c.answer_messages-answered.new.output) c.in-Err.end c.requires.most c.loop.invariant c.in-Err.ensures

-- no more bytes were read
pub returns-in-Err-feed_more : goal.returns-in-Err-feed_more
returns-in-Err-feed_more g c =
    let told = g.D.Desk.told in
    let coming = g.C.Clock.coming in
    let source = g.I.Source in
    let sink = g.O.Sink in
    let served = c.in_default.ensures in
    let from = input_of source.left source.faults source.is_steady source.is_closed c.args.input.now in
    let now = input_of source.left source.faults source.is_steady source.is_closed c.loop.input in
    let later = input_of source.left source.faults source.is_steady source.is_closed c.feed_more.new.input in
    let old = world told g.D.Desk.has_seen coming c.args.desk.now c.args.clock.now c.args.salts.now in
    let mid = world told g.D.Desk.has_seen coming c.loop.desk c.loop.clock c.loop.salts in
    let new = world told g.D.Desk.has_seen coming c.answer_messages-answered.new.desk c.answer_messages-answered.new.clock c.answer_messages-answered.new.salts in
    let begun = output_of sink.written sink.faults sink.is_steady sink.is_closed c.args.output.now in
    let o = output_of sink.written sink.faults sink.is_steady sink.is_closed c.loop.output in
    let to = output_of sink.written sink.faults sink.is_steady sink.is_closed c.answer_messages-answered.new.output in
    feeds-end c.args.framer from now later c.answer_messages-answered.new.framer c.feed_more.new.framer old new c.answer_messages-answered.new.serials begun to c.in-Err-feed_more.end c.requires.most
    (through c.args.framer from now c.loop.framer c.answer_messages-answered.new.framer old mid new c.loop.serials c.answer_messages-answered.new.serials begun o to c.loop.invariant served.0 served.1 served.2)
    (subst (λ m. BreaksNone m c.answer_messages-answered.new.framer.rest) (c.loop.invariant.most ∙ c.requires.most) served.3) c.in-Err-feed_more.ensures

-- more bytes were read
pub loop-preserved : goal.loop-preserved
loop-preserved g c =
    let told = g.D.Desk.told in
    let coming = g.C.Clock.coming in
    let source = g.I.Source in
    let sink = g.O.Sink in
    let served = c.in_default.ensures in
    let from = input_of source.left source.faults source.is_steady source.is_closed c.args.input.now in
    let now = input_of source.left source.faults source.is_steady source.is_closed c.loop.input in
    let later = input_of source.left source.faults source.is_steady source.is_closed c.feed_more.new.input in
    let old = world told g.D.Desk.has_seen coming c.args.desk.now c.args.clock.now c.args.salts.now in
    let mid = world told g.D.Desk.has_seen coming c.loop.desk c.loop.clock c.loop.salts in
    let new = world told g.D.Desk.has_seen coming c.answer_messages-answered.new.desk c.answer_messages-answered.new.clock c.answer_messages-answered.new.salts in
    let begun = output_of sink.written sink.faults sink.is_steady sink.is_closed c.args.output.now in
    let o = output_of sink.written sink.faults sink.is_steady sink.is_closed c.loop.output in
    let to = output_of sink.written sink.faults sink.is_steady sink.is_closed c.answer_messages-answered.new.output in
    amid-more c.args.framer from now later c.answer_messages-answered.new.framer c.feed_more.new.framer old new c.answer_messages-answered.new.serials begun to
    (through c.args.framer from now c.loop.framer c.answer_messages-answered.new.framer old mid new c.loop.serials c.answer_messages-answered.new.serials begun o to c.loop.invariant served.0 served.1 served.2)
    c.in_default-feed_more.ensures

-- the sink stays open
pub answer_messages-answered-requires-clause-output_open : goal.answer_messages-answered-requires-clause-output_open
answer_messages-answered-requires-clause-output_open g c = c.loop.invariant.going.answered.as_open ∙ c.requires.output_open
