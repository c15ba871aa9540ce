use Rattle.attribute_index.proofs.PairLemmas.{step-put}
use Rattle.attribute_index.proofs.names.put_first.Goals as goal

pub loop-place-preserved : goal.loop-place-preserved
loop-place-preserved c = (step-put c.args.pairs.now c.args.but.now c.loop-place.place c.index-pairs-place.result c.loop-place-test.true c.index-pairs-place.is c.args.id.0 c.args.names.now c.loop-place.names c.put_own.new.names c.loop-place.invariant.0 c.in_default.ensures.put, λ lean. c.put_own.ensures.lean (c.loop-place.invariant.1 lean))
