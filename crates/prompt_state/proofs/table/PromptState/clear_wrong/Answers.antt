use Rattle.std.proofs.Common.{refl}
use Rattle.prompt_state.specs.declared.row.PromptRow.{PromptRow}
use Rattle.prompt_state.proofs.IndexLemmas.{kept-changed, state-changed}
use Rattle.prompt_state.proofs.table.PromptState.clear_wrong.Goals as goal

pub invariant_of-self : goal.invariant_of-self
invariant_of-self c =
    kept-changed c.self.inside.rows.entries c.clear_wrong.new.rows.entries c.self.inside.agent c.self.inside.next c.args.prompt (λ (row : PromptRow). record row { wrong = 0 })
    c.clear_wrong.ensures c.self.inside.owned.keys (record { number = λ row. refl; owner = λ row. refl; stage = λ row is. is }) c.self.invariant

pub returns : goal.returns
returns c = rw (← c.self.view_is) (
    state-changed c.self.inside.rows.entries c.clear_wrong.new.rows.entries c.self.inside.agent c.self.inside.next c.args.prompt (λ (row : PromptRow). record row { wrong = 0 })
    c.clear_wrong.ensures c.self.invariant.numbered)
