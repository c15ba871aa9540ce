use Rattle.std.proofs.Common.{◌≡◌, None, get_or, ◌∙◌, List, ◌++◌, ℕ, ap, sym}
use Rattle.idle_lock.specs.Deadline.{due_one}
use Rattle.idle_lock.specs.History.{times_in}
use Rattle.idle_lock.specs.declared.deadline.Timer.{Timer}
use Rattle.idle_lock.proofs.DueLemmas.{due-more}
use Rattle.idle_lock.proofs.PlaceLemmas.{mapped_value}
use Rattle.idle_lock.proofs.plan.due_stems.Goals as goal

-- the timer at this place is one more
pub loop-place-preserved : goal.loop-place-preserved
loop-place-preserved c = λ history at.
    let are : get_or c.args.times.now c.loop-place.place None ≡ times_in history c.index-timers-place.result.stem = mapped_value (λ (t : Timer). times_in history t.stem) c.args.timers.now c.args.times.now c.loop-place.place c.index-timers-place.result None c.loop-place-test.true c.index-timers-place.is at in
    c.in_ok-add_if_due.ensures
    ∙ ap (λ (t : List (List ℕ)). t ++ due_one c.args.now c.index-timers-place.result (get_or c.args.times.now c.loop-place.place None)) (c.loop-place.invariant history at)
    ∙ sym (due-more history c.args.now c.args.timers.now c.loop-place.place c.index-timers-place.result (get_or c.args.times.now c.loop-place.place None) c.loop-place-test.true c.index-timers-place.is are)
