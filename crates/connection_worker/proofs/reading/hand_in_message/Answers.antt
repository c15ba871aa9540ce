use Rattle.dbus_framing.specs.Messages.{parts_of}
use Rattle.connection_worker.specs.Serving.{world}
use Rattle.connection_worker.proofs.MessageLemmas.{is-one, is-not}
use Rattle.connection_worker.proofs.ReaderLemmas.{message-other, message-unread, message-call}
use Rattle.connection_worker.proofs.reading.hand_in_message.Goals as goal

-- it isn't a call
pub returns-then-message-ne1 : goal.returns-then-message-ne1
returns-then-message-ne1 g c = message-other (parts_of c.args.message.now) _ (is-not c.args.message.now.kind c.if-message-ne1.true)

-- its request was handed in, or the reader stops
pub returns-in-Ok : goal.returns-in-Ok
returns-in-Ok g c =
    let told = g.D.Desk.told in
    message-call (parts_of c.args.message.now) c.in-Ok.request (world told g.D.Desk.has_seen g.C.Clock.coming c.args.desk.now c.args.clock.now c.args.salts.now)
    (world told g.D.Desk.has_seen g.C.Clock.coming c.hand_in.new.desk c.hand_in.new.clock c.hand_in.new.salts) c.hand_in.result (is-one c.args.message.now.kind c.if-message-ne1.false)
    c.in-Ok.ensures c.hand_in.ensures

-- there was no memory for it
pub returns-in-Err : goal.returns-in-Err
returns-in-Err g c = message-unread (parts_of c.args.message.now) _ (is-one c.args.message.now.kind c.if-message-ne1.false)
