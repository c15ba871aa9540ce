use Rattle.std.proofs.Common.{◌≡◌, ◌-◌, ap, get_or, refl, arith}
use Rattle.item_store.proofs.PlaceLemmas.{Given, rises-read, rising-places}
use Rattle.item_store.proofs.rows.is_rising.Goals as goal

pub returns-then-rows-place : goal.returns-then-rows-place
returns-then-rows-place c = (
  λ never. absurd cc,
  λ rising.
      let up = rises-read c.args.rows.now (c.loop-place.place - 1) c.loop-place.place c.index-rows-place.result c.index-rows-place-in-loop-place.result rising (omega arith) (omega arith) c.index-rows-place.is c.index-rows-place-in-loop-place.is in
      let one : c.index-rows-place.result.0.0 ≡ (get_or c.args.rows.now (c.loop-place.place - 1) c.index-rows-place.result).0.0 = ap (λ (item : Given). item.0.0) c.index-rows-place.is in
      let two : c.index-rows-place-in-loop-place.result.0.0 ≡ (get_or c.args.rows.now c.loop-place.place c.index-rows-place-in-loop-place.result).0.0 = ap (λ (item : Given). item.0.0) c.index-rows-place-in-loop-place.is in
      absurd (omega (arith, up, one, two, c.if-rows-place.true)),
)

pub returns : goal.returns
returns c = (λ _. rising-places c.args.rows.now (λ place d lt. c.loop-place.invariant place d (omega (arith, lt))), λ _. refl)
