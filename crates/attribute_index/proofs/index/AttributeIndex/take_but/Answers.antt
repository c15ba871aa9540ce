use Rattle.attribute_index.specs.Index.{is_own}
use Rattle.attribute_index.proofs.PairLemmas.{rise-taken}
use Rattle.attribute_index.proofs.index.AttributeIndex.take_but.Goals as goal

pub invariant_of-self : goal.invariant_of-self
invariant_of-self c =
    (rise-taken (is_own c.as_slice.result.now c.args.others.now) c.args.id.0 c.self.inside.names c.take_all.new.names c.self.invariant.0 c.take_all.ensures.taken, c.take_all.ensures.lean c.self.invariant.1, c.self.invariant.2)
