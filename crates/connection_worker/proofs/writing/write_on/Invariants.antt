use Rattle.service_desk.specs.Places.{place}
use Rattle.connection_worker.specs.Streams.{output_of}
use Rattle.connection_worker.specs.Writing.{WrittenSoFar}
use Rattle.connection_worker.proofs.writing.write_on.Given as goal

-- what was taken so far is written
abbrev pub invariant-loop : goal.invariant-loop
invariant-loop g l =
    let told = g.D.Desk.told in
    let sink = g.O.Sink in
    WrittenSoFar (output_of sink.written sink.faults sink.is_steady sink.is_closed l.initial.output) (output_of sink.written sink.faults sink.is_steady sink.is_closed l.output)
    (place told g.D.Desk.has_seen l.initial.desk) (place told g.D.Desk.has_seen l.desk) l.serials
