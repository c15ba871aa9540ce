use Rattle.std.proofs.Common.{◌≡◌}
use Rattle.connection_worker.specs.Streams.{output_of}
use Rattle.connection_worker.specs.Serving.{world}
use Rattle.connection_worker.specs.Answering.{ServedPrefix}
use Rattle.connection_worker.proofs.serving.answer_messages.Given as goal

-- the calls among the messages so far are served
abbrev pub invariant-loop : goal.invariant-loop
invariant-loop g l =
    let told = g.D.Desk.told in
    let sink = g.O.Sink in
    (l.framer.most ≡ l.fn.framer.most)
    × ServedPrefix l.fn.framer.most l.fn.framer.rest l.framer.rest (world told g.D.Desk.has_seen g.C.Clock.coming l.initial.desk l.initial.clock l.initial.salts)
    (world told g.D.Desk.has_seen g.C.Clock.coming l.desk l.clock l.salts) l.initial.serials l.serials (output_of sink.written sink.faults sink.is_steady sink.is_closed l.initial.output)
    (output_of sink.written sink.faults sink.is_steady sink.is_closed l.output)
