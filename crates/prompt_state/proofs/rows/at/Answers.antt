use Rattle.std.proofs.Common.{◌∙◌}
use Rattle.prompt_state.proofs.EntryLemmas.{lookup-is}
use Rattle.prompt_state.proofs.rows.at.Goals as goal

pub returns : goal.returns
returns c = c.get.ensures.value ∙ lookup-is c.args.number c.args.rows.now.entries
