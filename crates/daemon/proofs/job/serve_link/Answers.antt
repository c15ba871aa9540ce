use Rattle.std.proofs.Common.{◌∙◌, ap, refl}
use Rattle.std.specs.Prelude.{Ok, Err}
use Rattle.connection_worker.specs.Streams.{input_of, output_of}
use Rattle.daemon.specs.Jobs.{closed_output}
use Rattle.daemon.proofs.job.serve_link.Goals as goal

-- both sides did their work
pub returns-in-Ok : goal.returns-in-Ok
returns-in-Ok g c =
    let source = g.I.Source in
    let sink = g.O.Sink in
    let input_now = input_of source.left source.faults source.is_steady source.is_closed in
    let output_now = output_of sink.written sink.faults sink.is_steady sink.is_closed in
    let reads = c.serve_both.ensures.reads in
    let writes = c.serve_both.ensures.writes in
    let closing = c.close.ensures in
    rw (← c.job.view_is) (record {
      conn = closing.conn ∙ c.serve_both.ensures.conn;
      streams = record { input = input_now c.handshake.new.input; output = output_now c.handshake.new.output };
      ends = record { input = input_now c.serve_both.result.input; output = writes.ended };
      outcome = Ok c.in-Ok.framer;
      handshake = c.in-Ok.ensures;
      follows = record {
        clock_after = reads.clock_after;
        salting_after = reads.salting_after;
        reader = rw (closing.reader, closing.read_end) reads.reader;
        writer = rw (closing.writer, closing.write_end) writes.writer;
      };
      input = closing.input;
      output = closing.output ∙ ap closed_output writes.output;
    })

-- the handshake was refused
pub returns : goal.returns
returns g c =
    let source = g.I.Source in
    let sink = g.O.Sink in
    let input_now = input_of source.left source.faults source.is_steady source.is_closed in
    let output_now = output_of sink.written sink.faults sink.is_steady sink.is_closed in
    let closing = c.close-in-Err.ensures in
    rw (← c.job.view_is) (record {
      conn = closing.conn;
      streams = record { input = input_now c.handshake.new.input; output = output_now c.handshake.new.output };
      ends = record { input = input_now c.handshake.new.input; output = output_now c.handshake.new.output };
      outcome = Err c.in-Err.end;
      handshake = c.in-Err.ensures;
      follows = record {
        read_end = closing.read_end;
        write_end = closing.write_end;
        streams_are = refl;
        reader = closing.reader;
        gone = rw closing.writer c.let_go.ensures;
      };
      input = closing.input;
      output = closing.output;
    })
