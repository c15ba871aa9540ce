use Rattle.std.proofs.Common.{◌≡◌, ◌∙◌, ◌++◌, ◌∷◌, [], ap, sym}
use Rattle.std.specs.Map.Iter.{deref}
use Rattle.prompt_state.proofs.AskLemmas.{asks-push, asks-skip}
use Rattle.prompt_state.proofs.rows.asks.Goals as goal

-- the row is asked
pub loop-row-preserved-in-Continue-1 : goal.loop-row-preserved-in-Continue-1
loop-row-preserved-in-Continue-1 c =
    let ask = c.in-Some-ask_to.ask in
    let pushed : c.push.new.self.items ≡ c.loop-row.asks.items ++ ask ∷ [] = rw c.in_ok-push.was at c.push.ensures.items in
    pushed ∙ ap (λ asks. asks ++ ask ∷ []) c.loop-row.invariant
    ∙ sym (asks-push c.args.agent deref c.loop-row.yielded c.in-Some.row ask (sym c.ask_to.ensures ∙ c.in-Some-ask_to.is))

-- it isn't
pub loop-row-preserved : goal.loop-row-preserved
loop-row-preserved c = c.loop-row.invariant ∙ sym (asks-skip c.args.agent deref c.loop-row.yielded c.in-Some.row (sym c.ask_to.ensures ∙ c.in_default.is))
