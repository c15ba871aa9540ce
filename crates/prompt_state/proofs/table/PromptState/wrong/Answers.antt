use Rattle.std.proofs.Common.{refl, sym, ap, ◌∙◌}
use Rattle.std.specs.Option.{option_map}
use Rattle.prompt_state.specs.declared.row.PromptRow.{PromptRow}
use Rattle.prompt_state.specs.Prompts.{one_more}
use Rattle.prompt_state.proofs.IndexLemmas.{kept-changed, row-is, state-changed}
use Rattle.prompt_state.proofs.TableLemmas.{no-count, no-row}
use Rattle.prompt_state.proofs.table.PromptState.wrong.Goals as goal

pub unreachable-requires : goal.unreachable-requires
unreachable-requires c =
    let there = rw (← c.self.view_is) at c.requires in
    no-row c.self.inside.rows.entries c.self.inside.agent c.self.inside.next c.args.prompt c.self.invariant.numbered (no-count _ c.in-None.ensures.count) there

pub invariant_of-self : goal.invariant_of-self
invariant_of-self c =
    kept-changed c.self.inside.rows.entries c.add_wrong.new.rows.entries c.self.inside.agent c.self.inside.next c.args.prompt (λ (row : PromptRow). record row { wrong = one_more row.wrong })
    c.add_wrong.ensures.added c.self.inside.owned.keys (record { number = λ row. refl; owner = λ row. refl; stage = λ row is. is }) c.self.invariant

pub returns-clause-counted : goal.returns-clause-counted
returns-clause-counted c = rw (← c.self.view_is) (
    state-changed c.self.inside.rows.entries c.add_wrong.new.rows.entries c.self.inside.agent c.self.inside.next c.args.prompt (λ (row : PromptRow). record row { wrong = one_more row.wrong })
    c.add_wrong.ensures.added c.self.invariant.numbered)

pub returns-clause-count : goal.returns-clause-count
returns-clause-count c = rw (← c.self.view_is) (
    ap (option_map (λ (row : PromptRow). one_more row.wrong)) (sym (row-is c.self.inside.rows.entries c.self.inside.agent c.self.inside.next c.args.prompt c.self.invariant.numbered)) ∙ sym c.in-Some.ensures.count)
