use Rattle.std.proofs.Common.{◌∙◌}
use Rattle.prompt_state.proofs.EntryLemmas.{lookup-is, removed-is}
use Rattle.prompt_state.proofs.rows.take_out.Goals as goal

pub returns-clause-value : goal.returns-clause-value
returns-clause-value c = c.remove.ensures.value ∙ lookup-is c.args.number c.args.rows.now.entries

pub returns-clause-taken : goal.returns-clause-taken
returns-clause-taken c = c.remove.ensures.entries ∙ removed-is c.args.number c.args.rows.now.entries c.len-count.ensures.ordered
