use Rattle.std.proofs.Common.{◌≡◌, length}
use Rattle.bus_address.specs.Pairs.{value_in}
use Rattle.bus_address.specs.Pieces.{pieces}
use Rattle.bus_address.proofs.pairs.value_in.Given as goal

abbrev pub invariant-loop-pair : goal.invariant-loop-pair
invariant-loop-pair l = value_in l.key (pieces 44 l.rest) ≡ value_in l.key (pieces 44 l.pairs)

abbrev pub decreases-loop-pair : goal.decreases-loop-pair
decreases-loop-pair l = length l.rest
