use Rattle.std.proofs.Common.{◌∙◌}
use Rattle.service_desk.specs.Places.{place}
use Rattle.connection_worker.specs.Streams.{output_of}
use Rattle.connection_worker.proofs.WriterLemmas.{written-none, written-more, writes-end}
use Rattle.connection_worker.proofs.writing.write_on.Goals as goal

pub loop-init : goal.loop-init
loop-init g c = rw c.new-serials.ensures (written-none _ _)

-- the desk waits as before
pub write_next-requires-clause-waiting : goal.write_next-requires-clause-waiting
write_next-requires-clause-waiting g c = c.loop.invariant.recorded.same.waiting ∙ c.requires.waiting

-- the sink stays open
pub write_next-requires-clause-output_open : goal.write_next-requires-clause-output_open
write_next-requires-clause-output_open g c = c.loop.invariant.wrote.closed ∙ c.requires.output_open

-- nothing more is to be written
pub returns-in-Err : goal.returns-in-Err
returns-in-Err g c =
    let told = g.D.Desk.told in
    let sink = g.O.Sink in
    writes-end (output_of sink.written sink.faults sink.is_steady sink.is_closed c.args.output.now) (output_of sink.written sink.faults sink.is_steady sink.is_closed c.loop.output)
    (output_of sink.written sink.faults sink.is_steady sink.is_closed c.write_next.new.output) (place told g.D.Desk.has_seen c.args.desk.now) (place told g.D.Desk.has_seen c.loop.desk)
    (place told g.D.Desk.has_seen c.write_next.new.desk) c.loop.serials c.write_next.new.serials c.in-Err.end c.loop.invariant c.in-Err.ensures

-- one more take was written
pub loop-preserved : goal.loop-preserved
loop-preserved g c =
    let told = g.D.Desk.told in
    let sink = g.O.Sink in
    written-more (output_of sink.written sink.faults sink.is_steady sink.is_closed c.args.output.now) (output_of sink.written sink.faults sink.is_steady sink.is_closed c.loop.output)
    (output_of sink.written sink.faults sink.is_steady sink.is_closed c.write_next.new.output) (place told g.D.Desk.has_seen c.args.desk.now) (place told g.D.Desk.has_seen c.loop.desk)
    (place told g.D.Desk.has_seen c.write_next.new.desk) c.loop.serials c.write_next.new.serials c.loop.invariant c.in_default.ensures
