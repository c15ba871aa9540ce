use Rattle.dbus_framing.specs.Messages.{parts_of}
use Rattle.connection_worker.specs.Streams.{output_of}
use Rattle.connection_worker.specs.Serving.{world}
use Rattle.connection_worker.proofs.MessageLemmas.{answers-other, answers-call, is-one, is-not}
use Rattle.connection_worker.proofs.serving.answer_message.Goals as goal

-- it isn't a call
pub returns-then-message-ne1 : goal.returns-then-message-ne1
returns-then-message-ne1 g c = answers-other (parts_of c.args.message.now) _ c.args.serials.now _ c.requires.idle (is-not c.args.message.now.kind c.if-message-ne1.true)

-- it is
pub returns : goal.returns
returns g c =
    let told = g.D.Desk.told in
    let sink = g.O.Sink in
    answers-call (parts_of c.args.message.now) (world told g.D.Desk.has_seen g.C.Clock.coming c.args.desk.now c.args.clock.now c.args.salts.now)
    (world told g.D.Desk.has_seen g.C.Clock.coming c.answer_call.new.desk c.answer_call.new.clock c.answer_call.new.salts) c.args.serials.now c.answer_call.new.serials
    (output_of sink.written sink.faults sink.is_steady sink.is_closed c.args.output.now) (output_of sink.written sink.faults sink.is_steady sink.is_closed c.answer_call.new.output) c.answer_call.result
    (is-one c.args.message.now.kind c.if-message-ne1.false) c.answer_call.ensures
