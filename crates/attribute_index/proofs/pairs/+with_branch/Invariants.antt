use Rattle.std.proofs.Common.{length}
use Rattle.attribute_index.specs.Branches.{pairs_of}
use Rattle.attribute_index.proofs.pairs.+with_branch.Given as goal

abbrev pub decreases-with_branch : goal.decreases-with_branch
decreases-with_branch l = length (pairs_of l.pairs)
