use Rattle.std.proofs.Common.{refl, sym, ◌∙◌}
use Rattle.kr_dialer.specs.Carrying.{link_of}
use Rattle.client_tool.specs.Streams.{input_of, output_of}
use Rattle.client_tool.specs.declared.status.ToolStatus.TheVariants as status
use Rattle.client_tool.proofs.LineLemmas.{no-user-no-line, line-none, line-some}
use Rattle.client_tool.proofs.RunningLemmas.{quits-usage, quits-untouched}
use Rattle.client_tool.proofs.running.tool.Goals as goal

-- the words begin with no user
pub returns-in_default-clause-usage : goal.returns-in_default-clause-usage
returns-in_default-clause-usage g c usage = no-user-no-line c.args.words.now c.in_default.ensures

pub returns-in_default-clause-runs : goal.returns-in_default-clause-runs
returns-in_default-clause-runs g c =
    let it = g.D.Dialer in
    let sink = g.O.Sink in
    let source = g.I.Source in
    quits-usage c.args.words.now (input_of source.left source.faults source.is_steady source.is_closed c.args.input.now) (output_of sink.written sink.faults sink.is_steady c.args.output.now) (link_of it.dialled it.left it.written it.faults it.is_steady c.args.dialer.now) (no-user-no-line c.args.words.now c.in_default.ensures)

-- there was no memory
pub returns-in-Err-clause-runs : goal.returns-in-Err-clause-runs
returns-in-Err-clause-runs g c =
    let it = g.D.Dialer in
    let sink = g.O.Sink in
    let source = g.I.Source in
    quits-untouched c.args.words.now (input_of source.left source.faults source.is_steady source.is_closed c.args.input.now) (output_of sink.written sink.faults sink.is_steady c.args.output.now) (link_of it.dialled it.left it.written it.faults it.is_steady c.args.dialer.now) status.Memory refl

-- the words after the user are no command
pub returns-then-not-found-clause-usage : goal.returns-then-not-found-clause-usage
returns-then-not-found-clause-usage g c usage = line-none c.args.words.now _ _ _ c.in-Some.ensures (sym c.in-Ok.ensures ∙ c.if-not-found.true)

pub returns-then-not-found-clause-runs : goal.returns-then-not-found-clause-runs
returns-then-not-found-clause-runs g c =
    let it = g.D.Dialer in
    let sink = g.O.Sink in
    let source = g.I.Source in
    quits-usage c.args.words.now (input_of source.left source.faults source.is_steady source.is_closed c.args.input.now) (output_of sink.written sink.faults sink.is_steady c.args.output.now) (link_of it.dialled it.left it.written it.faults it.is_steady c.args.dialer.now)
    (line-none c.args.words.now _ _ _ c.in-Some.ensures (sym c.in-Ok.ensures ∙ c.if-not-found.true))

-- they are one
pub run_line-requires-clause-is_command : goal.run_line-requires-clause-is_command
run_line-requires-clause-is_command g c = sym c.in-Ok.ensures ∙ c.if-not-found.false

pub returns-clause-usage : goal.returns-clause-usage
returns-clause-usage g c usage = absurd (c.run_line.ensures.not_usage usage)

pub returns-clause-untouched : goal.returns-clause-untouched
returns-clause-untouched g c usage = absurd (c.run_line.ensures.not_usage usage)

pub returns-clause-no_line : goal.returns-clause-no_line
returns-clause-no_line g c none = absurd (line-some c.args.words.now _ _ _ c.in-Some.ensures (sym c.in-Ok.ensures ∙ c.if-not-found.false) none)

pub returns-clause-runs : goal.returns-clause-runs
returns-clause-runs g c = c.run_line.ensures.runs c.args.words.now c.in-Some.ensures
