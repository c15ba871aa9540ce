use Rattle.std.proofs.Common.{◌≡◌, length}
use Rattle.std.specs.List.{list_all}
use Rattle.bus_address.specs.BusNames.{is_element}
use Rattle.bus_address.specs.Pieces.{pieces}
use Rattle.bus_address.proofs.bus_name.are_elements.Given as goal

abbrev pub invariant-loop-element : goal.invariant-loop-element
invariant-loop-element l = list_all is_element (pieces 46 l.rest) ≡ list_all is_element (pieces 46 l.text)

abbrev pub decreases-loop-element : goal.decreases-loop-element
decreases-loop-element l = length l.rest
