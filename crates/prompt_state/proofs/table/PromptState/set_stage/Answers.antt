use Rattle.prompt_state.specs.declared.row.PromptRow.{PromptRow}
use Rattle.prompt_state.proofs.IndexLemmas.{keeps-stage, kept-changed, state-changed}
use Rattle.prompt_state.proofs.table.PromptState.set_stage.Goals as goal

pub invariant_of-self : goal.invariant_of-self
invariant_of-self c =
    kept-changed c.self.inside.rows.entries c.set_stage.new.rows.entries c.self.inside.agent c.self.inside.next c.args.prompt (λ (row : PromptRow). record row { stage = c.args.stage })
    c.set_stage.ensures c.self.inside.owned.keys (keeps-stage c.args.stage c.requires) c.self.invariant

pub returns : goal.returns
returns c = rw (← c.self.view_is) (
    state-changed c.self.inside.rows.entries c.set_stage.new.rows.entries c.self.inside.agent c.self.inside.next c.args.prompt (λ (row : PromptRow). record row { stage = c.args.stage })
    c.set_stage.ensures c.self.invariant.numbered)
