use Rattle.std.proofs.Common.{Ok, subst, ◌∙◌}
use Rattle.dbus_framing.specs.Messages.{parts_of}
use Rattle.service_desk.specs.Places.{place}
use Rattle.connection_worker.specs.Streams.{output_of}
use Rattle.connection_worker.specs.Serving.{Asks, place_of, world}
use Rattle.connection_worker.proofs.CallLemmas.{answers, answers-alone, asked-fits, broke-first, broke-late, brought-fits, unasked, unread}
use Rattle.connection_worker.proofs.AnswerLemmas.{arrived-owed, derived-owed, given-kept}
use Rattle.connection_worker.proofs.RecordLemmas.{behind}
use Rattle.connection_worker.proofs.serving.answer_call.Goals as goal

-- there was no memory for the request
pub returns-in_default : goal.returns-in_default
returns-in_default g c = unread (parts_of c.args.message.now) _ c.args.serials.now _ c.requires.idle

-- it wasn't recorded
pub returns-in-Err : goal.returns-in-Err
returns-in-Err g c =
    let old = world g.D.Desk.told g.D.Desk.has_seen g.C.Clock.coming c.args.desk.now c.args.clock.now c.args.salts.now in
    let new = world g.D.Desk.told g.D.Desk.has_seen g.C.Clock.coming c.ask.new.desk c.ask.new.clock c.ask.new.salts in
    unasked (parts_of c.args.message.now) c.in-Ok.request old new c.args.serials.now _ c.in-Err.end c.in-Ok.ensures c.requires.idle c.in-Err.ensures

-- the output for it waits
pub give-requires-clause-owed : goal.give-requires-clause-owed
give-requires-clause-owed g c =
    let asks = c.in-Ok-ask.ensures in
    arrived-owed (g.D.Desk.told c.args.desk.now) (g.D.Desk.told c.ask.new.desk) asks.0 c.requires.idle (asked-fits _ _ asks.0 asks.2) asks.2.calls.same.conn asks.2.calls.state

-- it wasn't all written
pub returns-in-Err-give : goal.returns-in-Err-give
returns-in-Err-give g c =
    let told = g.D.Desk.told in
    let sink = g.O.Sink in
    let asks = c.in-Ok-ask.ensures in
    let old = world told g.D.Desk.has_seen g.C.Clock.coming c.args.desk.now c.args.clock.now c.args.salts.now in
    let mid = world told g.D.Desk.has_seen g.C.Clock.coming c.ask.new.desk c.ask.new.clock c.ask.new.salts in
    broke-first (parts_of c.args.message.now) c.in-Ok.request c.in-Ok-ask.work old mid (place told g.D.Desk.has_seen c.give.new.desk) c.args.serials.now c.give.new.serials
    (output_of sink.written sink.faults sink.is_steady sink.is_closed c.args.output.now) (output_of sink.written sink.faults sink.is_steady sink.is_closed c.give.new.output) c.in-Err-give.end c.in-Ok.ensures c.requires.idle
    (arrived-owed (told c.args.desk.now) (told c.ask.new.desk) asks.0 c.requires.idle (asked-fits _ _ asks.0 asks.2) asks.2.calls.same.conn asks.2.calls.state) asks c.in-Err-give.ensures

-- it was, and no key is asked for
pub returns-in_default-work : goal.returns-in_default-work
returns-in_default-work g c =
    let told = g.D.Desk.told in
    let sink = g.O.Sink in
    let asks = c.in-Ok-ask.ensures in
    let old = world told g.D.Desk.has_seen g.C.Clock.coming c.args.desk.now c.args.clock.now c.args.salts.now in
    let mid = world told g.D.Desk.has_seen g.C.Clock.coming c.ask.new.desk c.ask.new.clock c.ask.new.salts in
    let first = place told g.D.Desk.has_seen c.give.new.desk in
    answers-alone (parts_of c.args.message.now) c.in-Ok.request old mid first c.args.serials.now c.give.new.serials
    (output_of sink.written sink.faults sink.is_steady sink.is_closed c.args.output.now) (output_of sink.written sink.faults sink.is_steady sink.is_closed c.give.new.output) c.in-Ok.ensures c.requires.idle
    (arrived-owed (told c.args.desk.now) (told c.ask.new.desk) asks.0 c.requires.idle (asked-fits _ _ asks.0 asks.2) asks.2.calls.same.conn asks.2.calls.state)
    (subst (λ work. Asks c.in-Ok.request old mid (Ok work)) c.in_default-work.is asks) c.in_default-give.ensures

-- nothing waits while the key is derived
pub bring-requires-clause-idle : goal.bring-requires-clause-idle
bring-requires-clause-idle g c =
    let told = g.D.Desk.told in
    let asks = c.in-Ok-ask.ensures in
    given-kept (place told g.D.Desk.has_seen c.ask.new.desk) (place told g.D.Desk.has_seen c.give.new.desk)
    (arrived-owed (told c.args.desk.now) (told c.ask.new.desk) asks.0 c.requires.idle (asked-fits _ _ asks.0 asks.2) asks.2.calls.same.conn asks.2.calls.state) c.in_default-give.ensures.3
    c.in_default-give.ensures.0

-- the key wasn't recorded
pub returns-in-Err-bring : goal.returns-in-Err-bring
returns-in-Err-bring g c =
    let told = g.D.Desk.told in
    let sink = g.O.Sink in
    let asks = c.in-Ok-ask.ensures in
    let old = world told g.D.Desk.has_seen g.C.Clock.coming c.args.desk.now c.args.clock.now c.args.salts.now in
    let mid = world told g.D.Desk.has_seen g.C.Clock.coming c.ask.new.desk c.ask.new.clock c.ask.new.salts in
    let first = place told g.D.Desk.has_seen c.give.new.desk in
    let last = world told g.D.Desk.has_seen g.C.Clock.coming c.bring.new.desk c.bring.new.clock c.ask.new.salts in
    broke-late (parts_of c.args.message.now) c.in-Ok.request c.in-Some.work old mid first last c.args.serials.now c.give.new.serials
    (output_of sink.written sink.faults sink.is_steady sink.is_closed c.args.output.now) (output_of sink.written sink.faults sink.is_steady sink.is_closed c.give.new.output) c.in-Err-bring.end c.in-Ok.ensures c.requires.idle
    (arrived-owed (told c.args.desk.now) (told c.ask.new.desk) asks.0 c.requires.idle (asked-fits _ _ asks.0 asks.2) asks.2.calls.same.conn asks.2.calls.state)
    (subst (λ work. Asks c.in-Ok.request old mid (Ok work)) c.in-Some.is asks) c.in_default-give.ensures (c.in-Err-bring.ensures c.ask.new.salts)

-- the desk stays alone
pub give-requires-2-clause-alone : goal.give-requires-2-clause-alone
give-requires-2-clause-alone g c =
    let brings = c.in_default-bring.ensures c.ask.new.salts in
    brings.1.calls.same.alone ∙ c.in_default-give.ensures.0.same.alone ∙ c.in-Ok-ask.ensures.2.calls.same.alone ∙ c.requires.alone

-- what the key sends waits
pub give-requires-2-clause-owed : goal.give-requires-2-clause-owed
give-requires-2-clause-owed g c =
    let told = g.D.Desk.told in
    let sink = g.O.Sink in
    let asks = c.in-Ok-ask.ensures in
    let old = world told g.D.Desk.has_seen g.C.Clock.coming c.args.desk.now c.args.clock.now c.args.salts.now in
    let mid = world told g.D.Desk.has_seen g.C.Clock.coming c.ask.new.desk c.ask.new.clock c.ask.new.salts in
    let first = place told g.D.Desk.has_seen c.give.new.desk in
    let last = world told g.D.Desk.has_seen g.C.Clock.coming c.bring.new.desk c.bring.new.clock c.ask.new.salts in
    let due = arrived-owed (told c.args.desk.now) (told c.ask.new.desk) asks.0 c.requires.idle (asked-fits _ _ asks.0 asks.2) asks.2.calls.same.conn asks.2.calls.state in
    let idle = given-kept (place_of mid) first due c.in_default-give.ensures.3 c.in_default-give.ensures.0 in
    let brings = c.in_default-bring.ensures c.ask.new.salts in
    derived-owed first.told last.told c.in-Some.work brings.0 idle (brought-fits (behind mid first) last c.in-Some.work brings.0 brings.1) brings.1.calls.same.conn brings.1.calls.state

-- and was taken
pub returns : goal.returns
returns g c =
    let told = g.D.Desk.told in
    let sink = g.O.Sink in
    let asks = c.in-Ok-ask.ensures in
    let old = world told g.D.Desk.has_seen g.C.Clock.coming c.args.desk.now c.args.clock.now c.args.salts.now in
    let mid = world told g.D.Desk.has_seen g.C.Clock.coming c.ask.new.desk c.ask.new.clock c.ask.new.salts in
    let first = place told g.D.Desk.has_seen c.give.new.desk in
    let last = world told g.D.Desk.has_seen g.C.Clock.coming c.bring.new.desk c.bring.new.clock c.ask.new.salts in
    let due = arrived-owed (told c.args.desk.now) (told c.ask.new.desk) asks.0 c.requires.idle (asked-fits _ _ asks.0 asks.2) asks.2.calls.same.conn asks.2.calls.state in
    let idle = given-kept (place_of mid) first due c.in_default-give.ensures.3 c.in_default-give.ensures.0 in
    let brings = c.in_default-bring.ensures c.ask.new.salts in
    answers (parts_of c.args.message.now) c.in-Ok.request c.in-Some.work brings.0 old mid last first (place told g.D.Desk.has_seen c.give-2.new.desk) c.args.serials.now c.give.new.serials c.give-2.new.serials
    (output_of sink.written sink.faults sink.is_steady sink.is_closed c.args.output.now) (output_of sink.written sink.faults sink.is_steady sink.is_closed c.give.new.output)
    (output_of sink.written sink.faults sink.is_steady sink.is_closed c.give-2.new.output) c.give-2.result c.in-Ok.ensures c.requires.idle due
    (derived-owed first.told last.told c.in-Some.work brings.0 idle (brought-fits (behind mid first) last c.in-Some.work brings.0 brings.1) brings.1.calls.same.conn brings.1.calls.state)
    (subst (λ work. Asks c.in-Ok.request old mid (Ok work)) c.in-Some.is asks) c.in_default-give.ensures brings.1 c.give-2.ensures

-- the sink stays open
pub give-requires-2-clause-output_open : goal.give-requires-2-clause-output_open
give-requires-2-clause-output_open g c = c.in_default-give.ensures.1 ∙ c.requires.output_open
