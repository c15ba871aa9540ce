use Rattle.service_desk.specs.Places.{place}
use Rattle.connection_worker.specs.Streams.{output_of}
use Rattle.connection_worker.proofs.WriterLemmas.{writer-goes}
use Rattle.connection_worker.proofs.writing.write_side.Goals as goal

-- it was reported to the desk that the connection is gone
pub returns-in_default : goal.returns-in_default
returns-in_default g c =
    let told = g.D.Desk.told in
    let sink = g.O.Sink in
    writer-goes (output_of sink.written sink.faults sink.is_steady sink.is_closed c.args.output.now) (output_of sink.written sink.faults sink.is_steady sink.is_closed c.write_on-end.new.output)
    (place told g.D.Desk.has_seen c.args.desk.now) (place told g.D.Desk.has_seen c.write_on-end.new.desk) (place told g.D.Desk.has_seen c.gone.new.self) c.write_on-end.result
    c.in_default.not-Done c.in_default.not-OtherEnded c.write_on-end.ensures c.gone.ensures
