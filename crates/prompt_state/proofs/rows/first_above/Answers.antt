use Rattle.std.proofs.Common.{◌∙◌, sym, rules}
use Rattle.prompt_state.proofs.AskLemmas.{above-some, above-none}
use Rattle.prompt_state.proofs.rows.first_above.Goals as goal

-- the range has the rows above the number
pub returns-in-Some : goal.returns-in-Some
returns-in-Some c =
    let between = c.range.ensures.between (search rules) in
    sym (above-some c.args.number c.args.rows.now.entries _ _ (sym between ∙ c.in-Some.ensures.steps))

pub returns-in-None : goal.returns-in-None
returns-in-None c =
    let between = c.range.ensures.between (search rules) in
    sym (above-none c.args.number c.args.rows.now.entries (sym between ∙ c.in-None.ensures.steps.0))
