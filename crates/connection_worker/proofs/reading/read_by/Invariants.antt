use Rattle.connection_worker.specs.Reader.{ReadSoFar}
use Rattle.connection_worker.specs.Serving.{world}
use Rattle.connection_worker.specs.Streams.{input_of}
use Rattle.connection_worker.proofs.reading.read_by.Given as goal

-- what was read so far is fed, and the calls before it were handed in
abbrev pub invariant-loop : goal.invariant-loop
invariant-loop g l =
    let told = g.D.Desk.told in
    let source = g.I.Source in
    ReadSoFar l.fn.framer (input_of source.left source.faults source.is_steady source.is_closed l.initial.input) (input_of source.left source.faults source.is_steady source.is_closed l.input) l.framer
    (world told g.D.Desk.has_seen g.C.Clock.coming l.initial.desk l.initial.clock l.initial.salts) (world told g.D.Desk.has_seen g.C.Clock.coming l.desk l.clock l.salts)
