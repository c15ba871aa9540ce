use Rattle.attribute_index.proofs.KeptLemmas.{none-sorted}
use Rattle.attribute_index.proofs.pairs.Pairs.new.Goals as goal

pub invariant_of-result : goal.invariant_of-result
invariant_of-result c = none-sorted
