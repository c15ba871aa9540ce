use Rattle.std.proofs.Common.{◌≡◌, length}
use Rattle.std.specs.List.{list_all}
use Rattle.bus_address.specs.Addresses.{is_part}
use Rattle.bus_address.specs.Pieces.{pieces}
use Rattle.bus_address.proofs.address.are_parts.Given as goal

abbrev pub invariant-loop-entry : goal.invariant-loop-entry
invariant-loop-entry l = list_all is_part (pieces 59 l.rest) ≡ list_all is_part (pieces 59 l.text)

abbrev pub decreases-loop-entry : goal.decreases-loop-entry
decreases-loop-entry l = length l.rest
