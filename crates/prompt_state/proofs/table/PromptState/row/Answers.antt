use Rattle.std.proofs.Common.{◌∙◌}
use Rattle.prompt_state.proofs.IndexLemmas.{row-is}
use Rattle.prompt_state.proofs.table.PromptState.row.Goals as goal

pub returns-clause-row : goal.returns-clause-row
returns-clause-row c = rw (← c.self.view_is) (c.at.ensures ∙ row-is c.self.inside.rows.entries c.self.inside.agent c.self.inside.next c.args.prompt c.self.invariant.numbered)

pub returns-clause-sound : goal.returns-clause-sound
returns-clause-sound c = rw (← c.self.view_is) c.self.invariant.sound
