use Rattle.service_desk.specs.Places.{place}
use Rattle.connection_worker.specs.Streams.{input_of}
use Rattle.connection_worker.specs.Serving.{world}
use Rattle.connection_worker.proofs.ReaderLemmas.{reads-leave}
use Rattle.connection_worker.proofs.reading.read_side.Goals as goal

-- the desk left
pub returns : goal.returns
returns g c =
    let told = g.D.Desk.told in
    let coming = g.C.Clock.coming in
    let source = g.I.Source in
    reads-leave c.args.framer (input_of source.left source.faults source.is_steady source.is_closed c.args.input.now) (input_of source.left source.faults source.is_steady source.is_closed c.read_on-end.new.input)
    (world told g.D.Desk.has_seen coming c.args.desk.now c.args.clock.now c.args.salts.now)
    (world told g.D.Desk.has_seen coming c.read_on-end.new.desk c.read_on-end.new.clock c.read_on-end.new.salts) (place told g.D.Desk.has_seen c.leave.new.self) c.read_on-end.result
    c.read_on-end.ensures c.leave.ensures
