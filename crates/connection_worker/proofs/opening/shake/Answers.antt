use Rattle.std.proofs.Common.{drop, Err}
use Rattle.connection_worker.specs.Streams.{input_of}
use Rattle.dbus_auth.specs.Handshake.{silent, opened, refused, waiting}
use Rattle.connection_worker.proofs.HandshakeLemmas.{reached-none, reached-turn, reached-more, begins, refuses, fails, reads_no_more, more_behind}
use Rattle.connection_worker.proofs.opening.shake.Goals as goal

pub loop-init : goal.loop-init
loop-init g c = reached-none _ _ _

-- BEGIN was accepted
pub returns-in-Ok-Begins : goal.returns-in-Ok-Begins
returns-in-Ok-Begins g c =
    let turn = rw (c.in-Ok-Begins.field-0-is, c.as_slice.ensures.value) at c.in-Ok-Begins.ensures in
    begins _ _ (drop c.in-Ok-Begins.size c.loop.held.items) _ _ _
    (reached-turn _ c.loop.auth _ c.loop.held.items _ _ _ _ (silent (opened (drop c.in-Ok-Begins.size c.loop.held.items))) c.loop.invariant turn.1)
    c.framer_behind.ensures.fed c.framer_behind.ensures.memory

pub returns-in-Ok-Refused : goal.returns-in-Ok-Refused
returns-in-Ok-Refused g c =
    let turn = rw (c.in-Ok-Refused.field-0-is, c.as_slice.ensures.value) at c.in-Ok-Refused.ensures in
    refuses _ _ _ _ c.in-Ok-Refused.fault
    (reached-turn _ c.loop.auth _ c.loop.held.items _ _ _ _ (silent (refused c.in-Ok-Refused.fault)) c.loop.invariant turn)

-- an answer wasn't written
pub returns-in-Err : goal.returns-in-Err
returns-in-Err g c =
    let turn = rw c.as_slice.ensures.value at c.in-Err.ensures in
    fails _ c.loop.auth _ c.loop.held.items _ _ _ _ c.loop.invariant turn.0 turn.1

-- no more was read
pub returns-in-Err-read_more : goal.returns-in-Err-read_more
returns-in-Err-read_more g c =
    let source = g.I.Source in
    let from = input_of source.left source.faults source.is_steady source.is_closed c.loop.input in
    let to = input_of source.left source.faults source.is_steady source.is_closed c.read_more.new.input in
    let rest = drop c.in-Ok-Waits.size c.loop.held.items in
    let turn = rw (c.in-Ok-Waits.field-0-is, c.as_slice.ensures.value) at c.in-Ok-Waits.ensures in
    reads_no_more _ c.answer_lines.new.auth _ rest c.read_more.new.held.items _ from to _ c.in-Err-read_more.end
    (reached-turn _ c.loop.auth _ c.loop.held.items _ _ _ _ (silent (waiting c.answer_lines.new.auth rest)) c.loop.invariant turn.1)
    (more_behind c.remove_front.new.bytes.items rest c.read_more.new.held.items from to (Err c.in-Err-read_more.end) c.remove_front.ensures c.in-Err-read_more.ensures)

-- more was
pub loop-preserved : goal.loop-preserved
loop-preserved g c =
    let turn = rw (c.in-Ok-Waits.field-0-is, c.as_slice.ensures.value) at c.in-Ok-Waits.ensures in
    let more = rw c.remove_front.ensures at c.in_default.ensures in
    reached-more _ c.answer_lines.new.auth _ c.read_more.new.held.items (drop c.in-Ok-Waits.size c.loop.held.items) more.0 _ _ _ _
    (reached-turn _ c.loop.auth _ c.loop.held.items _ _ _ _ (silent (waiting c.answer_lines.new.auth (drop c.in-Ok-Waits.size c.loop.held.items))) c.loop.invariant turn.1)
    more.1 more.2 more.4
