use Rattle.std.proofs.Common.{◌≡◌, length}
use Rattle.bus_address.specs.Values.{is_value}
use Rattle.bus_address.proofs.value.is_value.Given as goal

abbrev pub invariant-loop-byte : goal.invariant-loop-byte
invariant-loop-byte l = is_value l.left ≡ is_value l.text

abbrev pub decreases-loop-byte : goal.decreases-loop-byte
decreases-loop-byte l = length l.left
