use Rattle.std.proofs.Common.{sym, ap, ◌∙◌}
use Rattle.std.specs.Option.{option_map}
use Rattle.prompt_state.specs.Prompts.{ended_row}
use Rattle.prompt_state.proofs.IndexLemmas.{kept-ended, row-is, state-ended}
use Rattle.prompt_state.proofs.TableLemmas.{no-row}
use Rattle.prompt_state.proofs.table.PromptState.end.Goals as goal

pub unreachable-requires : goal.unreachable-requires
unreachable-requires c =
    let there = rw (← c.self.view_is) at c.requires in
    no-row c.self.inside.rows.entries c.self.inside.agent c.self.inside.next c.args.prompt c.self.invariant.numbered c.in-None.ensures.row there

pub invariant_of-self : goal.invariant_of-self
invariant_of-self c =
    kept-ended c.self.inside.rows.entries c.take_row.new.rows.entries c.self.inside.agent c.self.inside.next c.args.prompt c.take_row.ensures.taken c.self.inside.owned.keys c.take_row.new.pairs.keys
    c.take_row.ensures.indexed c.self.invariant

pub returns-clause-ended : goal.returns-clause-ended
returns-clause-ended c = rw (← c.self.view_is) (
    state-ended c.self.inside.rows.entries c.take_row.new.rows.entries c.self.inside.agent c.self.inside.next c.args.prompt c.take_row.ensures.taken c.self.invariant.numbered)

pub returns-clause-left : goal.returns-clause-left
returns-clause-left c = rw (← c.self.view_is) (
    ap (option_map ended_row) (sym (c.in-Some.ensures.row ∙ row-is c.self.inside.rows.entries c.self.inside.agent c.self.inside.next c.args.prompt c.self.invariant.numbered)))
