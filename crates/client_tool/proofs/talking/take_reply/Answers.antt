use Rattle.std.proofs.Common.{◌∙◌}
use Rattle.dbus_framing.specs.Messages.{parts_of}
use Rattle.kr_dialer.specs.Carrying.{link_of}
use Rattle.client_tool.proofs.TalkingLemmas.{takes-fed, takes-unfed, takes-broken, takes-memory, takes-signal, takes-one, takes-none, is-four, is-other, fed-dialled, unfed-dialled}
use Rattle.client_tool.proofs.talking.take_reply.Goals as goal

-- more was read
pub returns-in-Ok-clause-takes : goal.returns-in-Ok-clause-takes
returns-in-Ok-clause-takes g c =
    let it = g.D.Dialer in
    let now = link_of it.dialled it.left it.written it.faults it.is_steady c.args.dialer.now in
    let next = link_of it.dialled it.left it.written it.faults it.is_steady c.feed_more.new.dialer in
    let waits = rw c.in-Ok-None.field-0-is at c.in-Ok-None.ensures.waits in
    takes-fed c.args.framer.now c.next.new.self c.feed_more.new.framer c.args.call.now c.args.serial now next c.requires.most c.in-Ok-None.ensures.most waits.0 c.in-Ok.ensures.receives

-- no more was
pub returns-in-Err-clause-takes : goal.returns-in-Err-clause-takes
returns-in-Err-clause-takes g c =
    let it = g.D.Dialer in
    let now = link_of it.dialled it.left it.written it.faults it.is_steady c.args.dialer.now in
    let next = link_of it.dialled it.left it.written it.faults it.is_steady c.feed_more.new.dialer in
    let waits = rw c.in-Ok-None.field-0-is at c.in-Ok-None.ensures.waits in
    takes-unfed c.args.framer.now c.next.new.self c.feed_more.new.framer c.args.call.now c.args.serial now next c.in-Err.stop c.requires.most waits.0 waits.1 c.in-Err.ensures.receives

-- a violation shows
pub returns-in-Err-Violation-clause-takes : goal.returns-in-Err-Violation-clause-takes
returns-in-Err-Violation-clause-takes g c =
    let it = g.D.Dialer in
    let now = link_of it.dialled it.left it.written it.faults it.is_steady c.args.dialer.now in
    let broken = rw c.in-Err-Violation.field-0-is at c.in-Err-Violation.ensures.refused in
    rw c.in-Err-Violation.cause-is (takes-broken c.args.framer.now c.next.new.self c.args.call.now c.args.serial now c.in-Err-Violation.cause c.requires.most broken)

-- there was no memory for the next message
pub returns-in-Err-OutOfMemory-clause-takes : goal.returns-in-Err-OutOfMemory-clause-takes
returns-in-Err-OutOfMemory-clause-takes g c =
    let it = g.D.Dialer in
    takes-memory c.args.framer.now c.next.new.self c.args.call.now c.args.serial (link_of it.dialled it.left it.written it.faults it.is_steady c.args.dialer.now)

-- a signal was skipped
pub returns-then-message-eq-SIGNAL-clause-takes : goal.returns-then-message-eq-SIGNAL-clause-takes
returns-then-message-eq-SIGNAL-clause-takes g c =
    let it = g.D.Dialer in
    let cut = rw c.in-Ok-Some.field-0-is at c.in-Ok-Some.ensures.message in
    takes-signal c.args.framer.now c.next.new.self c.args.call.now c.args.serial (link_of it.dialled it.left it.written it.faults it.is_steady c.args.dialer.now)
    (parts_of c.in-Ok-Some.message) c.requires.most c.in-Ok-Some.ensures.most cut (is-four c.in-Ok-Some.message.kind c.if-message-eq-SIGNAL.true)

-- the reply came
pub returns-in-Ok-read_reply-clause-takes : goal.returns-in-Ok-read_reply-clause-takes
returns-in-Ok-read_reply-clause-takes g c =
    let it = g.D.Dialer in
    let cut = rw c.in-Ok-Some.field-0-is at c.in-Ok-Some.ensures.message in
    takes-one c.args.framer.now c.next.new.self c.args.call.now c.args.serial (link_of it.dialled it.left it.written it.faults it.is_steady c.args.dialer.now)
    (parts_of c.in-Ok-Some.message) c.in-Ok-read_reply.reply c.requires.most c.in-Ok-Some.ensures.most cut (is-other c.in-Ok-Some.message.kind c.if-message-eq-SIGNAL.false) c.in-Ok-read_reply.ensures

-- another message came
pub returns-clause-takes : goal.returns-clause-takes
returns-clause-takes g c =
    let it = g.D.Dialer in
    let cut = rw c.in-Ok-Some.field-0-is at c.in-Ok-Some.ensures.message in
    takes-none c.args.framer.now c.next.new.self c.args.call.now c.args.serial (link_of it.dialled it.left it.written it.faults it.is_steady c.args.dialer.now)
    (parts_of c.in-Ok-Some.message) c.in-Err-read_reply.stop c.requires.most cut (is-other c.in-Ok-Some.message.kind c.if-message-eq-SIGNAL.false) c.in-Err-read_reply.ensures

-- a reading dials nothing
pub returns-in-Ok-clause-dialled : goal.returns-in-Ok-clause-dialled
returns-in-Ok-clause-dialled g c =
    let it = g.D.Dialer in
    fed-dialled c.next.new.self c.feed_more.new.framer (link_of it.dialled it.left it.written it.faults it.is_steady c.args.dialer.now)
    (link_of it.dialled it.left it.written it.faults it.is_steady c.feed_more.new.dialer) c.in-Ok.ensures.receives

pub returns-in-Err-clause-dialled : goal.returns-in-Err-clause-dialled
returns-in-Err-clause-dialled g c =
    let it = g.D.Dialer in
    unfed-dialled c.next.new.self c.feed_more.new.framer (link_of it.dialled it.left it.written it.faults it.is_steady c.args.dialer.now)
    (link_of it.dialled it.left it.written it.faults it.is_steady c.feed_more.new.dialer) c.in-Err.stop c.in-Err.ensures.receives

-- the limit stays
pub returns-in-Ok-clause-most : goal.returns-in-Ok-clause-most
returns-in-Ok-clause-most g c = c.in-Ok.ensures.most ∙ c.in-Ok-None.ensures.most

pub returns-in-Err-clause-most : goal.returns-in-Err-clause-most
returns-in-Err-clause-most g c = c.in-Err.ensures.most ∙ c.in-Ok-None.ensures.most
