use Rattle.std.proofs.Common.{refl}
use Rattle.client_tool.specs.Streams.{output_of}
use Rattle.client_tool.proofs.RunningLemmas.{unprinted}
use Rattle.client_tool.proofs.printing.print.Goals as goal

-- the output failed
pub returns-in-Err : goal.returns-in-Err
returns-in-Err g c =
    let sink = g.O.Sink in
    let old = output_of sink.written sink.faults sink.is_steady c.args.output.now in
    let new = output_of sink.written sink.faults sink.is_steady c.write_all.new.output in
    let said = c.in-Err.ensures in
    unprinted c.args.end old new (rw c.as_slice.ensures at said.front) said.cause.later (said.cause.failed refl) said.steady
