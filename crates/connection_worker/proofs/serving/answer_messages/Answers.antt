use Rattle.std.proofs.Common.{◌∙◌, refl}
use Rattle.dbus_framing.specs.Messages.{parts_of}
use Rattle.connection_worker.specs.Streams.{output_of}
use Rattle.connection_worker.specs.Serving.{world}
use Rattle.connection_worker.proofs.MessageLemmas.{going-none, going-on, going-last, memory-early, broke-message, early}
use Rattle.connection_worker.proofs.serving.answer_messages.Goals as goal

pub loop-init : goal.loop-init
loop-init g c = (refl, going-none c.args.framer.now.most c.args.framer.now.rest _ c.args.serials.now _ c.requires.idle)

-- the desk stays alone, and nothing waits between two messages
pub answer_message-requires-clause-alone : goal.answer_message-requires-clause-alone
answer_message-requires-clause-alone g c = c.loop.invariant.1.answered.recorded.calls.same.alone ∙ c.requires.alone

pub answer_message-requires-clause-idle : goal.answer_message-requires-clause-idle
answer_message-requires-clause-idle g c = c.loop.invariant.1.answered.idle

-- no further message is complete
pub returns-in-Ok-None : goal.returns-in-Ok-None
returns-in-Ok-None g c =
    let waits = rw c.in-Ok-None.field-0-is at c.in-Ok-None.ensures.waits in
    let last = going-last _ _ _ _ _ _ _ _ _ _ c.loop.invariant.1 (rw c.loop.invariant.0 at waits.0) in
    (last.0, last.1, c.in-Ok-None.ensures.most ∙ c.loop.invariant.0, rw c.loop.invariant.0 at waits.1)

-- a violation shows
pub returns-in-Err-Violation : goal.returns-in-Err-Violation
returns-in-Err-Violation g c =
    let broken = rw c.in-Err-Violation.field-0-is at c.in-Err-Violation.ensures.refused in
    let last = going-last _ _ _ _ _ _ _ _ _ _ c.loop.invariant.1 (rw c.loop.invariant.0 at broken.stream) in
    (last.0, last.1, rw c.loop.invariant.0 at broken.breaks)

-- there was no memory for the next message
pub returns-in-Err-OutOfMemory : goal.returns-in-Err-OutOfMemory
returns-in-Err-OutOfMemory g c =
    memory-early c.args.framer.now c.loop.framer.rest _ _ _ _ _ _ c.loop.invariant.1

-- the serving ended early
pub returns-in-Err : goal.returns-in-Err
returns-in-Err g c =
    let told = g.D.Desk.told in
    let coming = g.C.Clock.coming in
    let sink = g.O.Sink in
    let old = world told g.D.Desk.has_seen coming c.args.desk.now c.args.clock.now c.args.salts.now in
    let mid = world told g.D.Desk.has_seen coming c.loop.desk c.loop.clock c.loop.salts in
    let new = world told g.D.Desk.has_seen coming c.answer_message.new.desk c.answer_message.new.clock c.answer_message.new.salts in
    let from = output_of sink.written sink.faults sink.is_steady sink.is_closed c.args.output.now in
    let o = output_of sink.written sink.faults sink.is_steady sink.is_closed c.loop.output in
    let to = output_of sink.written sink.faults sink.is_steady sink.is_closed c.answer_message.new.output in
    let cut = rw (c.in-Ok-Some.field-0-is, c.loop.invariant.0) at c.in-Ok-Some.ensures.message in
    early c.args.framer.now c.next-in-loop.new.self old new c.args.serials.now c.answer_message.new.serials from to c.in-Err.end
    (broke-message c.args.framer.now.most c.args.framer.now.rest c.loop.framer.rest c.next-in-loop.new.self.rest old mid new c.args.serials.now c.loop.serials
    c.answer_message.new.serials from o to (parts_of c.in-Ok-Some.message) c.in-Err.end c.args.framer.now refl refl c.loop.invariant.1 cut c.in-Err.ensures)

-- one more message was served
pub loop-preserved : goal.loop-preserved
loop-preserved g c =
    let cut = rw (c.in-Ok-Some.field-0-is, c.loop.invariant.0) at c.in-Ok-Some.ensures.message in (
      c.in-Ok-Some.ensures.most ∙ c.loop.invariant.0,
      going-on _ _ _ _ _ _ _ _ _ _ _ _ _ (parts_of c.in-Ok-Some.message) c.loop.invariant.1 cut c.in_default.ensures,
    )

-- the sink stays open
pub answer_message-requires-clause-output_open : goal.answer_message-requires-clause-output_open
answer_message-requires-clause-output_open g c = c.loop.invariant.1.answered.as_open ∙ c.requires.output_open
