use Rattle.connection_worker.specs.Streams.{input_of, output_of}
use Rattle.connection_worker.specs.Serving.{world}
use Rattle.connection_worker.specs.ServingOn.{ServedSoFar}
use Rattle.connection_worker.proofs.serving.serve_by.Given as goal

-- what was read so far is fed, and the messages before it are served
abbrev pub invariant-loop : goal.invariant-loop
invariant-loop g l =
    let told = g.D.Desk.told in
    let source = g.I.Source in
    let sink = g.O.Sink in
    ServedSoFar l.fn.framer (input_of source.left source.faults source.is_steady source.is_closed l.initial.input) (input_of source.left source.faults source.is_steady source.is_closed l.input) l.framer
    (world told g.D.Desk.has_seen g.C.Clock.coming l.initial.desk l.initial.clock l.initial.salts) (world told g.D.Desk.has_seen g.C.Clock.coming l.desk l.clock l.salts) l.serials
    (output_of sink.written sink.faults sink.is_steady sink.is_closed l.initial.output) (output_of sink.written sink.faults sink.is_steady sink.is_closed l.output)
