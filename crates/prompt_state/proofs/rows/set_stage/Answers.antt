use Rattle.std.proofs.Common.{refl, sym, ◌∙◌}
use Rattle.prompt_state.specs.declared.row.PromptRow.{PromptRow}
use Rattle.prompt_state.proofs.EntryLemmas.{set-is, unset-is}
use Rattle.prompt_state.proofs.rows.set_stage.Goals as goal

pub returns-in-Some : goal.returns-in-Some
returns-in-Some c =
    let there = rw c.in-Some.is at c.get_mut.ensures.value in
    (c.get_mut.follows.holds _).0 ∙ set-is c.args.number (λ (row : PromptRow). record row { stage = c.args.stage }) c.args.rows.now.entries c.in-Some.row.now _ refl c.get_mut.ensures.ordered (sym there)

pub returns-in-None : goal.returns-in-None
returns-in-None c =
    let none = rw c.in-None.is at c.get_mut.ensures.value in
    rw c.get_mut.follows.holds-at-none (unset-is c.args.number (λ (row : PromptRow). record row { stage = c.args.stage }) c.args.rows.now.entries (sym none))
