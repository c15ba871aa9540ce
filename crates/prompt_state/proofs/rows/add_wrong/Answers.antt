use Rattle.std.proofs.Common.{Some, ap, sym, ◌∙◌}
use Rattle.std.specs.Option.{option_map}
use Rattle.prompt_state.specs.declared.row.PromptRow.{PromptRow}
use Rattle.prompt_state.specs.Prompts.{one_more}
use Rattle.prompt_state.proofs.EntryLemmas.{lookup-is, set-is, unset-is}
use Rattle.prompt_state.proofs.rows.add_wrong.Goals as goal

pub returns-in-Some-clause-added : goal.returns-in-Some-clause-added
returns-in-Some-clause-added c =
    let there = rw c.in-Some.is at c.get_mut.ensures.value in
    (c.get_mut.follows.holds _).0 ∙ set-is c.args.number (λ (row : PromptRow). record row { wrong = one_more row.wrong }) c.args.rows.now.entries c.in-Some.row.now _ (ap (λ w. record c.in-Some.row.now { wrong = w }) c.saturating_add-row.ensures) c.get_mut.ensures.ordered (sym there)

pub returns-in-Some-clause-count : goal.returns-in-Some-clause-count
returns-in-Some-clause-count c =
    let there = rw c.in-Some.is at c.get_mut.ensures.value in
    ap Some c.saturating_add-row.ensures ∙ ap (option_map (λ (row : PromptRow). one_more row.wrong)) (there ∙ lookup-is c.args.number c.args.rows.now.entries)

pub returns-in-None-clause-added : goal.returns-in-None-clause-added
returns-in-None-clause-added c =
    let none = rw c.in-None.is at c.get_mut.ensures.value in
    rw c.get_mut.follows.holds-at-none (unset-is c.args.number (λ (row : PromptRow). record row { wrong = one_more row.wrong }) c.args.rows.now.entries (sym none))

pub returns-in-None-clause-count : goal.returns-in-None-clause-count
returns-in-None-clause-count c =
    let none = rw c.in-None.is at c.get_mut.ensures.value in
    ap (option_map (λ (row : PromptRow). one_more row.wrong)) (none ∙ lookup-is c.args.number c.args.rows.now.entries)
