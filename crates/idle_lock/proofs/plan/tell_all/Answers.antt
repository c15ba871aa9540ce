use Rattle.std.proofs.Common.{◌∙◌, [], ◌∷◌, ◌++◌, None, ◌≤◌, length, ap, sym, arith}
use Rattle.std.proofs.lemmas.List.{length-set, take_all}
use Rattle.idle_lock.specs.History.{times_in, times_of}
use Rattle.idle_lock.specs.declared.deadline.Timer.{Timer}
use Rattle.idle_lock.proofs.PlaceLemmas.{left_over, written}
use Rattle.idle_lock.proofs.plan.tell_all.Goals as goal

-- the times at this place are new now
pub loop-place-preserved : goal.loop-place-preserved
loop-place-preserved c = record {
  lengths = length-set c.loop-place.times c.loop-place.place c.times_told.result ∙ c.loop-place.invariant.lengths;
  left = left_over c.loop-place.times c.args.times.now c.loop-place.place None c.times_told.result (omega (arith, c.loop-place.invariant.lengths, c.loop-place-test.true)) (c.loop-place.invariant.lengths ∙ sym c.requires) c.loop-place.invariant.left;
  written = λ history at. written (λ (t : Timer). times_in history t.stem) (λ (t : Timer). times_in (history ++ (c.args.stem.now, c.args.told) ∷ []) t.stem) c.args.timers.now c.loop-place.times c.args.times.now c.loop-place.place c.index-timers-place.result None c.times_told.result c.loop-place-test.true c.loop-place.invariant.lengths c.index-timers-place.is at c.loop-place.invariant.left (c.loop-place.invariant.written history at) (c.times_told.ensures history);
}

-- at the end all are
pub returns : goal.returns
returns c = λ history at.
    let past : length c.loop-place.times ≤ c.loop-place.place = omega (arith, c.loop-place.invariant.lengths, c.loop-place-test.false) in
    sym (take_all c.loop-place.place c.loop-place.times past)
    ∙ c.loop-place.invariant.written history at
    ∙ ap (times_of (history ++ (c.args.stem.now, c.args.told) ∷ [])) (take_all c.loop-place.place c.args.timers.now c.loop-place-test.false)
