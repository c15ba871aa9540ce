use Rattle.std.proofs.Common.{length}
use Rattle.attribute_index.specs.Branches.{pairs_of}
use Rattle.attribute_index.proofs.pairs.+without_pair.Given as goal

abbrev pub decreases-without_pair : goal.decreases-without_pair
decreases-without_pair l = length (pairs_of l.pairs)
