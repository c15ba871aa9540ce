use Rattle.std.proofs.Common.{refl, sym, ◌∙◌}
use Rattle.collection_store.proofs.InPlaceLemmas.{own_end, own_from, own_here}
use Rattle.collection_store.proofs.arranged.have_own_hashes.Goals as goal

pub returns-then-not-has_own_hashes : goal.returns-then-not-has_own_hashes
returns-then-not-has_own_hashes c = (
  λ never. absurd cc,
  λ all.
      let own = own_here c.args.clear.now c.args.items.now c.loop-place.place c.index-clear-place.result c.index-items-place.result c.loop-place-test.true c.requires c.index-clear-place.is c.index-items-place.is (c.loop-place.invariant.1 all) in
      sym c.if-not-has_own_hashes.true ∙ c.has_own_hashes.ensures.1 own.0,
)

pub loop-place-preserved : goal.loop-place-preserved
loop-place-preserved c = (
  λ rest. c.loop-place.invariant.0 (own_from c.args.clear.now c.args.items.now c.loop-place.place c.index-clear-place.result c.index-items-place.result c.loop-place-test.true c.requires c.index-clear-place.is c.index-items-place.is (c.has_own_hashes.ensures.0 c.if-not-has_own_hashes.false) rest),
  λ all. (own_here c.args.clear.now c.args.items.now c.loop-place.place c.index-clear-place.result c.index-items-place.result c.loop-place-test.true c.requires c.index-clear-place.is c.index-items-place.is (c.loop-place.invariant.1 all)).1,
)

pub returns : goal.returns
returns c = (λ yes. c.loop-place.invariant.0 (own_end c.args.clear.now c.args.items.now c.loop-place.place c.loop-place-test.false), λ all. refl)
