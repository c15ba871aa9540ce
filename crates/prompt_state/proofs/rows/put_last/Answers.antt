use Rattle.std.proofs.Common.{◌∙◌}
use Rattle.prompt_state.proofs.EntryLemmas.{insert-last}
use Rattle.prompt_state.proofs.rows.put_last.Goals as goal

pub returns-in-Ok-clause-put : goal.returns-in-Ok-clause-put
returns-in-Ok-clause-put c = c.in-Ok.ensures.entries ∙ insert-last c.args.rows.now.entries c.args.number c.args.row c.requires
