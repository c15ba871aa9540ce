use Rattle.prompt_state.proofs.IndexLemmas.{kept-unanswered, state-unanswered}
use Rattle.prompt_state.proofs.table.PromptState.leave.Goals as goal

pub invariant_of-self : goal.invariant_of-self
invariant_of-self c = kept-unanswered c.self.inside.rows.entries c.wait_again.new.rows.entries c.self.inside.agent c.self.inside.next c.wait_again.ensures c.self.inside.owned.keys c.self.invariant

pub returns : goal.returns
returns c = rw (← c.self.view_is) (state-unanswered c.self.inside.rows.entries c.wait_again.new.rows.entries c.self.inside.agent c.self.inside.next c.wait_again.ensures c.self.invariant.sound.rounds)
