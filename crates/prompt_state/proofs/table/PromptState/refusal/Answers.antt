use Rattle.std.proofs.Common.{sym, ◌∙◌}
use Rattle.prompt_state.proofs.TableLemmas.{asked-valid}
use Rattle.prompt_state.proofs.table.PromptState.refusal.Goals as goal

-- a round in which a prompt is asked isn't before the first
pub returns-then-is_asked_in-clause-round : goal.returns-then-is_asked_in-clause-round
returns-then-is_asked_in-clause-round c =
    asked-valid c.args.prompt c.args.self.now c.in-Some.row.now c.args.round c.row.ensures.sound c.in-Some.ensures.row (sym c.is_asked_in.ensures ∙ c.if-is_asked_in.true)
