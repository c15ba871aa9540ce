use Rattle.std.proofs.Common.{◌∙◌, refl}
use Rattle.dbus_framing.specs.Messages.{parts_of}
use Rattle.connection_worker.specs.Serving.{world}
use Rattle.connection_worker.proofs.ReaderLemmas.{so-none, so-on, so-last, so-stops, so-memory}
use Rattle.connection_worker.proofs.reading.hand_in_all.Goals as goal

pub loop-init : goal.loop-init
loop-init g c = (refl, so-none c.args.framer.now.most c.args.framer.now.rest _)

-- no further message is complete
pub returns-in-Ok-None : goal.returns-in-Ok-None
returns-in-Ok-None g c =
    let waits = rw c.in-Ok-None.field-0-is at c.in-Ok-None.ensures.waits in
    let last = so-last _ _ _ _ _ _ c.loop.invariant.1 (rw c.loop.invariant.0 at waits.0) in
    (last.0, last.1, c.in-Ok-None.ensures.most ∙ c.loop.invariant.0, rw c.loop.invariant.0 at waits.1)

-- a violation shows
pub returns-in-Err-Violation : goal.returns-in-Err-Violation
returns-in-Err-Violation g c =
    let broken = rw c.in-Err-Violation.field-0-is at c.in-Err-Violation.ensures.refused in
    let last = so-last _ _ _ _ _ _ c.loop.invariant.1 (rw c.loop.invariant.0 at broken.stream) in
    (last.0, last.1, rw c.loop.invariant.0 at broken.breaks)

-- there was no memory for the next message
pub returns-in-Err-OutOfMemory : goal.returns-in-Err-OutOfMemory
returns-in-Err-OutOfMemory g c = so-memory c.args.framer.now c.next-in-loop.new.self c.loop.framer.rest _ _ c.loop.invariant.1

-- the reader stops
pub returns-in-Err : goal.returns-in-Err
returns-in-Err g c =
    let told = g.D.Desk.told in
    let coming = g.C.Clock.coming in
    let old = world told g.D.Desk.has_seen coming c.args.desk.now c.args.clock.now c.args.salts.now in
    let mid = world told g.D.Desk.has_seen coming c.loop.desk c.loop.clock c.loop.salts in
    let new = world told g.D.Desk.has_seen coming c.hand_in_message.new.desk c.hand_in_message.new.clock c.hand_in_message.new.salts in
    let cut = rw (c.in-Ok-Some.field-0-is, c.loop.invariant.0) at c.in-Ok-Some.ensures.message in
    so-stops c.args.framer.now c.next-in-loop.new.self c.loop.framer.rest c.next-in-loop.new.self.rest old mid new (parts_of c.in-Ok-Some.message) c.in-Err.end c.loop.invariant.1 cut
    c.in-Err.ensures

-- one more message
pub loop-preserved : goal.loop-preserved
loop-preserved g c =
    let cut = rw (c.in-Ok-Some.field-0-is, c.loop.invariant.0) at c.in-Ok-Some.ensures.message in
    (c.in-Ok-Some.ensures.most ∙ c.loop.invariant.0, so-on _ _ _ _ _ _ _ (parts_of c.in-Ok-Some.message) c.loop.invariant.1 cut c.in_default.ensures)
