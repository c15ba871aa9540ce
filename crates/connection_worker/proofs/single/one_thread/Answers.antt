use Rattle.std.proofs.Common.{◌∙◌}
use Rattle.service_desk.specs.Places.{place}
use Rattle.connection_worker.specs.Streams.{input_of, output_of}
use Rattle.connection_worker.specs.Serving.{world}
use Rattle.connection_worker.proofs.SingleLemmas.{joined-idle, joined-owed, goes-alone, served-behind, served-not}
use Rattle.connection_worker.proofs.single.one_thread.Goals as goal

-- the handshake wasn't open
pub returns-in-Err : goal.returns-in-Err
returns-in-Err g c =
    let desk = g.D.Desk in
    let source = g.I.Source in
    let sink = g.O.Sink in
    served-not c.args.auth.uid c.args.auth.guid (input_of source.left source.faults source.is_steady source.is_closed c.args.input.now) (input_of source.left source.faults source.is_steady source.is_closed c.handshake.new.input)
    (output_of sink.written sink.faults sink.is_steady sink.is_closed c.args.output.now) (output_of sink.written sink.faults sink.is_steady sink.is_closed c.handshake.new.output)
    (world desk.told desk.has_seen g.C.Clock.coming c.args.desk.now c.args.clock.now c.args.salts.now) (place desk.told desk.has_seen c.gone.new.self) c.in-Err.end c.in-Err.ensures
    (goes-alone (place desk.told desk.has_seen c.args.desk.now) (place desk.told desk.has_seen c.gone.new.self) c.requires.alone (joined-idle _ c.requires.joined c.requires.sound) c.gone.ensures)

-- nothing waits for a connection that has just joined
pub serve-end-requires-clause-idle : goal.serve-end-requires-clause-idle
serve-end-requires-clause-idle g c = joined-owed _ c.requires.joined c.requires.sound

pub serve-end-requires-clause-most : goal.serve-end-requires-clause-most
serve-end-requires-clause-most g c = c.in-Ok.ensures.ends.1

-- the calls after it were served
pub returns : goal.returns
returns g c =
    let desk = g.D.Desk in
    let source = g.I.Source in
    let sink = g.O.Sink in
    let serves = c.serve-end.ensures in
    served-behind c.args.auth.uid c.args.auth.guid (input_of source.left source.faults source.is_steady source.is_closed c.args.input.now) (input_of source.left source.faults source.is_steady source.is_closed c.handshake.new.input)
    (input_of source.left source.faults source.is_steady source.is_closed c.serve-end.new.input) (output_of sink.written sink.faults sink.is_steady sink.is_closed c.args.output.now)
    (output_of sink.written sink.faults sink.is_steady sink.is_closed c.handshake.new.output) (output_of sink.written sink.faults sink.is_steady sink.is_closed c.serve-end.new.output)
    (world desk.told desk.has_seen g.C.Clock.coming c.args.desk.now c.args.clock.now c.args.salts.now)
    (world desk.told desk.has_seen g.C.Clock.coming c.serve-end.new.desk c.serve-end.new.clock c.serve-end.new.salts)
    (place desk.told desk.has_seen c.gone-2.new.self) c.in-Ok.framer c.serve-end.result c.in-Ok.ensures c.requires.joined serves
    (goes-alone (place desk.told desk.has_seen c.serve-end.new.desk) (place desk.told desk.has_seen c.gone-2.new.self) (serves.recorded.calls.same.alone ∙ c.requires.alone) serves.idle c.gone-2.ensures)
