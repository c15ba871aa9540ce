-- What is found in the properties that are left is found in all.
use Rattle.std.proofs.Common.{◌≡◌, drop}
use Rattle.std.specs.List.{find}
use Rattle.client_core.specs.Replies.{is_called}
use Rattle.client_core.proofs.properties.first_called.Given as goal

abbrev pub invariant-loop-property : goal.invariant-loop-property
invariant-loop-property l = find (is_called l.name) (drop l.property-index l.properties) ≡ find (is_called l.name) l.properties
