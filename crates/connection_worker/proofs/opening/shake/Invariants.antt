use Rattle.dbus_auth.specs.Handshake.{run}
use Rattle.connection_worker.specs.Streams.{input_of, output_of}
use Rattle.connection_worker.specs.Handshakes.{Reached}
use Rattle.connection_worker.proofs.opening.shake.Given as goal

-- the lines so far are answered, and the run over what is held is to come
abbrev pub invariant-loop : goal.invariant-loop
invariant-loop g l =
    let source = g.I.Source in
    let sink = g.O.Sink in
    Reached l.fn.auth l.fn.held.items
    (record { input = input_of source.left source.faults source.is_steady source.is_closed l.initial.input; output = output_of sink.written sink.faults sink.is_steady sink.is_closed l.initial.output })
    (record { input = input_of source.left source.faults source.is_steady source.is_closed l.input; output = output_of sink.written sink.faults sink.is_steady sink.is_closed l.output })
    (run l.auth l.held.items)
