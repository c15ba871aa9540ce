use Rattle.std.proofs.Common.{◌-◌, ◌≤◌, length, drop}
use Rattle.dbus_auth.specs.Handshake.{run}
use Rattle.connection_worker.specs.Streams.{output_of}
use Rattle.connection_worker.specs.Lines.{Answers}
use Rattle.connection_worker.proofs.lines.answer_lines.Given as goal

-- the lines that were taken are answered, and the run over the rest is to come
abbrev pub invariant-lines : goal.invariant-lines
invariant-lines g l =
    let sink = g.O.Sink in
    (l.taken ≤ length l.bytes)
    × Answers l.fn.auth l.bytes (output_of sink.written sink.faults sink.is_steady sink.is_closed l.initial.output)
    (output_of sink.written sink.faults sink.is_steady sink.is_closed l.output) (run l.auth (drop l.taken l.bytes))

abbrev pub decreases-lines : goal.decreases-lines
decreases-lines g l = length l.bytes - l.taken
