use Rattle.std.proofs.Common.{◌≡◌, length}
use Rattle.bus_address.specs.Pairs.{has_key}
use Rattle.bus_address.specs.Pieces.{pieces}
use Rattle.bus_address.proofs.pairs.has_key.Given as goal

abbrev pub invariant-loop-pair : goal.invariant-loop-pair
invariant-loop-pair l = has_key l.key (pieces 44 l.rest) ≡ has_key l.key (pieces 44 l.pairs)

abbrev pub decreases-loop-pair : goal.decreases-loop-pair
decreases-loop-pair l = length l.rest
