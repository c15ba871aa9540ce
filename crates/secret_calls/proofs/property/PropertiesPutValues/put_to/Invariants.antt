-- What was put so far, followed by the remaining properties, is what was there before, followed by all properties.
use Rattle.std.proofs.Common.{◌≡◌, ℕ, List, drop}
use Rattle.dbus_marshal.specs.Putting.{puts}
use Rattle.secret_calls.specs.Outs.{shown_values}
use Rattle.secret_calls.proofs.property.PropertiesPutValues.put_to.Given as goal

abbrev pub invariant-loop-property : goal.invariant-loop-property
invariant-loop-property g l = (before : List ℕ) → g.P.Put.stands l.fn.out before
    → (so_far : List ℕ) × g.P.Put.stands l.out so_far × (puts so_far (shown_values (drop l.property-index l.self.properties.now)) ≡ puts before (shown_values l.self.properties.now))
