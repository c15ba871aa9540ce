use Rattle.std.proofs.Common.{sym, ◌∙◌}
use Rattle.service_events.specs.service_tables.specs.Disk.{contents_in}
use Rattle.service_calls.proofs.PassLemmas.{has-apart, has-same}
use Rattle.service_calls.proofs.prompt.has_without.Goals as goal

pub returns-then-is_same : goal.returns-then-is_same
returns-then-is_same g c = has-same c.args.stem.now (contents_in c.args.disk.now).collections c.args.other.now (sym c.is_same.ensures ∙ c.if-is_same.true)

pub returns : goal.returns
returns g c = c.has.ensures ∙ has-apart c.args.stem.now (contents_in c.args.disk.now).collections c.args.other.now (sym c.is_same.ensures ∙ c.if-is_same.false)
