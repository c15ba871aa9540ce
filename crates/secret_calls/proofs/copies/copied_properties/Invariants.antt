use Rattle.std.proofs.Common.{◌≡◌, take}
use Rattle.secret_calls.proofs.copies.copied_properties.Given as goal

abbrev pub invariant-loop-property : goal.invariant-loop-property
invariant-loop-property l = l.copied.items ≡ take l.property-index l.properties
