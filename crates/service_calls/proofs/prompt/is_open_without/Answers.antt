use Rattle.std.proofs.Common.{sym, ◌∙◌}
use Rattle.service_events.specs.service_tables.specs.Disk.{contents_in}
use Rattle.service_calls.proofs.PassLemmas.{open-apart, open-same}
use Rattle.service_calls.proofs.prompt.is_open_without.Goals as goal

pub returns-then-is_same : goal.returns-then-is_same
returns-then-is_same g c = open-same c.args.stem.now (contents_in c.args.disk.now).collections c.args.other.now (sym c.is_same.ensures ∙ c.if-is_same.true)

pub returns : goal.returns
returns g c = c.is_open.ensures ∙ open-apart c.args.stem.now (contents_in c.args.disk.now).collections c.args.other.now (sym c.is_same.ensures ∙ c.if-is_same.false)
