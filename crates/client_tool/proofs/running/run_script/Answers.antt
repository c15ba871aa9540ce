use Rattle.std.proofs.Common.{ap, Err}
use Rattle.kr_dialer.specs.Carrying.{link_of}
use Rattle.client_tool.specs.Streams.{output_of}
use Rattle.client_tool.proofs.RunningLemmas.{undialled-fault, undialled-memory, some-dialled, run-stops, run-ends}
use Rattle.client_tool.proofs.running.run_script.Goals as goal

-- the dialer failed
pub returns-in-Err-Failed : goal.returns-in-Err-Failed
returns-in-Err-Failed g c =
    let it = g.D.Dialer in
    let sink = g.O.Sink in
    let old = link_of it.dialled it.left it.written it.faults it.is_steady c.args.dialer.now in
    let new = link_of it.dialled it.left it.written it.faults it.is_steady c.dial.new.self in
    let said = c.in-Err-Failed.ensures in
    undialled-fault c.args.path.now c.args.uid c.args.script.now.command (output_of sink.written sink.faults sink.is_steady c.args.output.now) old new said.refused said.left said.written said.cause.later said.steady
    (said.cause.failed (ap Err c.in-Err-Failed.field-0-is))

-- there was no memory to dial
pub returns-in-Err-OutOfMemory : goal.returns-in-Err-OutOfMemory
returns-in-Err-OutOfMemory g c =
    let it = g.D.Dialer in
    let sink = g.O.Sink in
    let old = link_of it.dialled it.left it.written it.faults it.is_steady c.args.dialer.now in
    let new = link_of it.dialled it.left it.written it.faults it.is_steady c.dial.new.self in
    let said = c.in-Err-OutOfMemory.ensures in
    undialled-memory c.args.path.now c.args.uid c.args.script.now.command (output_of sink.written sink.faults sink.is_steady c.args.output.now) old new said.refused said.left said.written said.cause.later said.steady
    (said.memory (ap Err c.in-Err-OutOfMemory.field-0-is))

-- the path was dialled
pub converse-requires-clause-has_dialled : goal.converse-requires-clause-has_dialled
converse-requires-clause-has_dialled g c = some-dialled _ _ c.in-Ok.ensures.dialled

-- the script stops
pub returns-in-Err : goal.returns-in-Err
returns-in-Err g c =
    let it = g.D.Dialer in
    let sink = g.O.Sink in
    let old = link_of it.dialled it.left it.written it.faults it.is_steady c.args.dialer.now in
    let mid = link_of it.dialled it.left it.written it.faults it.is_steady c.dial.new.self in
    let new = link_of it.dialled it.left it.written it.faults it.is_steady c.converse.new.dialer in
    let said = c.in-Ok.ensures in
    let is = rw c.as_str.ensures.value at said.dialled in
    rw c.stopped_with.ensures (run-stops c.args.path.now c.args.uid c.args.script.now.command (output_of sink.written sink.faults sink.is_steady c.args.output.now) old mid new c.in-Err.stop is said.left said.written said.still said.steady c.in-Err.ensures)

-- it has ended
pub returns-in-Ok-converse : goal.returns-in-Ok-converse
returns-in-Ok-converse g c =
    let it = g.D.Dialer in
    let sink = g.O.Sink in
    let old = link_of it.dialled it.left it.written it.faults it.is_steady c.args.dialer.now in
    let mid = link_of it.dialled it.left it.written it.faults it.is_steady c.dial.new.self in
    let new = link_of it.dialled it.left it.written it.faults it.is_steady c.converse.new.dialer in
    let said = c.in-Ok.ensures in
    let is = rw c.as_str.ensures.value at said.dialled in
    run-ends c.args.path.now c.args.uid c.args.script.now.command (output_of sink.written sink.faults sink.is_steady c.args.output.now) (output_of sink.written sink.faults sink.is_steady c.print.new.output) old mid new c.in-Ok-converse.end c.print.result is said.left said.written said.still
    said.steady c.in-Ok-converse.ensures c.print.ensures
