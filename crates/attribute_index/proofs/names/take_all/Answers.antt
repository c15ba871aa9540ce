use Rattle.attribute_index.proofs.PairLemmas.{step-taken}
use Rattle.attribute_index.proofs.names.take_all.Goals as goal

pub loop-place-preserved : goal.loop-place-preserved
loop-place-preserved c = (step-taken c.args.pairs.now c.args.but.now c.loop-place.place c.index-pairs-place.result c.loop-place-test.true c.index-pairs-place.is c.args.id.0 c.args.names.now c.loop-place.names c.take_own.new.names c.loop-place.invariant.0 c.take_own.ensures.taken, λ lean. c.take_own.ensures.lean (c.loop-place.invariant.1 lean))
