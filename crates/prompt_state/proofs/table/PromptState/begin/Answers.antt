use Rattle.std.proofs.Common.{sym, ◌∙◌}
use Rattle.prompt_state.proofs.IndexLemmas.{kept-begun, state-begun}
use Rattle.prompt_state.proofs.table.PromptState.begin.Goals as goal

pub invariant_of-self-2 : goal.invariant_of-self-2
invariant_of-self-2 c =
    let full = rw (← c.self.view_is) at (sym c.is_full.ensures ∙ c.if-is_full.false) in
    kept-begun c.self.inside.rows.entries c.add_row.new.rows.entries c.self.inside.agent c.self.inside.next c.args.owner c.args.kind c.in_default.ensures.added
    c.self.inside.owned.keys c.add_row.new.pairs.keys full c.add_row.ensures.indexed c.self.invariant

pub returns-clause-begun : goal.returns-clause-begun
returns-clause-begun c = rw (← c.self.view_is) (
    state-begun c.self.inside.rows.entries c.add_row.new.rows.entries c.self.inside.agent c.self.inside.next c.args.owner c.args.kind c.in_default.ensures.added)
