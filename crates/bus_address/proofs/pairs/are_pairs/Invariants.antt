use Rattle.std.proofs.Common.{◌≡◌, length}
use Rattle.bus_address.specs.Pairs.{are_pairs}
use Rattle.bus_address.specs.Pieces.{pieces}
use Rattle.bus_address.proofs.pairs.are_pairs.Given as goal

abbrev pub invariant-loop-pair : goal.invariant-loop-pair
invariant-loop-pair l = are_pairs (pieces 44 l.rest) ≡ are_pairs (pieces 44 l.pairs)

abbrev pub decreases-loop-pair : goal.decreases-loop-pair
decreases-loop-pair l = length l.rest
