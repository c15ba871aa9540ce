use Rattle.std.proofs.Common.{◌≡◌, ◌∙◌, true, false, List, ap, sym}
use Rattle.idle_lock.specs.History.{is_same, about, since_closed, from_opening, times_from}
use Rattle.idle_lock.specs.declared.history.Told.{Told}
use Rattle.idle_lock.proofs.HistoryLemmas.{about-same, about-other}
use Rattle.idle_lock.proofs.plan.times_told.Goals as goal

-- one more thing was told of this collection
pub returns-then-eq : goal.returns-then-eq
returns-then-eq c = λ history at.
    let same : is_same c.args.timer.now.stem c.args.stem.now ≡ true = cc in
    c.times_after.ensures (about c.args.timer.now.stem history) at
    ∙ ap (λ (tolds : List Told). times_from (from_opening (since_closed tolds))) (sym (about-same history c.args.timer.now.stem c.args.stem.now c.args.told same))

-- nothing more was told of it
pub returns-else-eq : goal.returns-else-eq
returns-else-eq c = λ history at.
    let differs : is_same c.args.timer.now.stem c.args.stem.now ≡ false = cc in
    at ∙ ap (λ (tolds : List Told). times_from (from_opening (since_closed tolds))) (sym (about-other history c.args.timer.now.stem c.args.stem.now c.args.told differs))
