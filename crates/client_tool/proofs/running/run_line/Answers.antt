use Rattle.kr_dialer.specs.Carrying.{link_of}
use Rattle.client_tool.specs.Streams.{input_of, output_of}
use Rattle.client_tool.proofs.LineLemmas.{command-is, never-none}
use Rattle.client_tool.proofs.RunningLemmas.{stop-no-usage, run-no-usage, ran, quits-unread, quits-later}
use Rattle.client_tool.proofs.running.run_line.Goals as goal

-- the secret wasn't read
pub returns-in-Err-clause-not_usage : goal.returns-in-Err-clause-not_usage
returns-in-Err-clause-not_usage g c usage = stop-no-usage c.in-Err.stop c.stopped_with.result c.stopped_with.ensures usage

pub returns-in-Err-clause-runs : goal.returns-in-Err-clause-runs
returns-in-Err-clause-runs g c words line =
    let it = g.D.Dialer in
    let sink = g.O.Sink in
    let source = g.I.Source in
    let from = input_of source.left source.faults source.is_steady source.is_closed c.args.input.now in
    let to = input_of source.left source.faults source.is_steady source.is_closed c.secret_for.new.input in
    rw c.stopped_with.ensures (quits-unread words c.args.path.now c.args.uid c.args.command.now from to (output_of sink.written sink.faults sink.is_steady c.args.output.now) (link_of it.dialled it.left it.written it.faults it.is_steady c.args.dialer.now) c.in-Err.stop line c.in-Err.ensures)

-- the script begins without a reply
pub run_script-requires-clause-begun : goal.run_script-requires-clause-begun
run_script-requires-clause-begun g c = (command-is _ c.in-Ok-Some.script (rw c.in-Ok-Some.field-0-is at c.in-Ok-Some.ensures)).1

-- the command was run
pub returns-in-Ok-Some-clause-not_usage : goal.returns-in-Ok-Some-clause-not_usage
returns-in-Ok-Some-clause-not_usage g c usage =
    let it = g.D.Dialer in
    let sink = g.O.Sink in
    run-no-usage c.args.path.now c.args.uid c.in-Ok-Some.script.command (output_of sink.written sink.faults sink.is_steady c.args.output.now) (output_of sink.written sink.faults sink.is_steady c.run_script.new.output) (link_of it.dialled it.left it.written it.faults it.is_steady c.args.dialer.now)
    (link_of it.dialled it.left it.written it.faults it.is_steady c.run_script.new.dialer) c.run_script.result c.run_script.ensures usage

pub returns-in-Ok-Some-clause-runs : goal.returns-in-Ok-Some-clause-runs
returns-in-Ok-Some-clause-runs g c words line =
    let it = g.D.Dialer in
    let sink = g.O.Sink in
    let source = g.I.Source in
    let from = input_of source.left source.faults source.is_steady source.is_closed c.args.input.now in
    let to = input_of source.left source.faults source.is_steady source.is_closed c.secret_for.new.input in
    ran words c.args.command.now c.args.path.now c.in-Ok.secret c.args.uid from to (output_of sink.written sink.faults sink.is_steady c.args.output.now) (output_of sink.written sink.faults sink.is_steady c.run_script.new.output) (link_of it.dialled it.left it.written it.faults it.is_steady c.args.dialer.now)
    (link_of it.dialled it.left it.written it.faults it.is_steady c.run_script.new.dialer) c.run_script.result c.in-Ok-Some.script line c.in-Ok.ensures (rw c.in-Ok-Some.field-0-is at c.in-Ok-Some.ensures) c.run_script.ensures

-- there was no memory
pub returns-in-Err-new-clause-runs : goal.returns-in-Err-new-clause-runs
returns-in-Err-new-clause-runs g c words line =
    let it = g.D.Dialer in
    let sink = g.O.Sink in
    let source = g.I.Source in
    let from = input_of source.left source.faults source.is_steady source.is_closed c.args.input.now in
    let to = input_of source.left source.faults source.is_steady source.is_closed c.secret_for.new.input in
    quits-later words c.args.command.now from to (output_of sink.written sink.faults sink.is_steady c.args.output.now) (link_of it.dialled it.left it.written it.faults it.is_steady c.args.dialer.now) c.in-Ok.secret c.in-Ok.ensures

-- the words are a command with any secret
pub unreachable-unreachable : goal.unreachable-unreachable
unreachable-unreachable g c = never-none c.args.command.now c.in-Ok.secret c.requires.is_command (rw c.in-Ok-None.field-0-is at c.in-Ok-None.ensures)
