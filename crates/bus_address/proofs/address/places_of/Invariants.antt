use Rattle.std.proofs.Common.{◌≡◌, ◌++◌, IsTrue, length}
use Rattle.std.specs.List.{list_all}
use Rattle.bus_address.specs.Addresses.{is_part, places_among}
use Rattle.bus_address.specs.Pieces.{pieces}
use Rattle.bus_address.proofs.address.places_of.Given as goal

abbrev pub invariant-loop-entry : goal.invariant-loop-entry
invariant-loop-entry l = record {
  form : IsTrue (list_all is_part (pieces 59 l.rest));
  so_far : l.places.items ++ places_among (pieces 59 l.rest) ≡ places_among (pieces 59 l.text);
}

abbrev pub decreases-loop-entry : goal.decreases-loop-entry
decreases-loop-entry l = length l.rest
