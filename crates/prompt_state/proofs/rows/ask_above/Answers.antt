use Rattle.std.proofs.Common.{◌∙◌, ◌^◌, nat_lt, sym}
use Rattle.prompt_state.proofs.AskLemmas.{found-first, found-later, found-none, lookup-above, lookup-below, shrinks}
use Rattle.prompt_state.proofs.rows.ask_above.Goals as goal

-- the row above the number is asked
pub returns-in-Some-ask_to : goal.returns-in-Some-ask_to
returns-in-Some-ask_to c =
    found-first c.args.agent c.loop-row.above c.args.rows.now.entries c.in-Some.row.now c.in-Some-ask_to.ask c.requires.numbered (sym c.in-Some.ensures) (sym c.ask_to.ensures ∙ c.in-Some-ask_to.is) ∙ c.loop-row.invariant

-- it isn't, so the search continues above it
pub loop-row-preserved : goal.loop-row-preserved
loop-row-preserved c =
    found-later c.args.agent c.loop-row.above c.args.rows.now.entries c.in-Some.row.now c.requires.numbered c.requires.rising (sym c.in-Some.ensures) (sym c.ask_to.ensures ∙ c.in_default-ask_to.is) ∙ c.loop-row.invariant

pub loop-row-smaller : goal.loop-row-smaller
loop-row-smaller c =
    let above = lookup-above c.loop-row.above c.args.rows.now.entries c.in-Some.row.now c.requires.numbered (sym c.in-Some.ensures) in
    let below = lookup-below (nat_lt c.loop-row.above) c.args.rows.now.entries c.in-Some.row.now (2 ^ 64) c.requires.given (sym c.in-Some.ensures) in
    shrinks c.loop-row.above c.in-Some.row.now.prompt.0 (2 ^ 64) above below

-- there is no row above the number
pub returns : goal.returns
returns c = found-none c.args.agent c.loop-row.above c.args.rows.now.entries c.requires.numbered (sym c.in_default.ensures) ∙ c.loop-row.invariant
