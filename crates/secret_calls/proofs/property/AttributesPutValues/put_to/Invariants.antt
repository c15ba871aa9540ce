-- What was put so far, followed by the remaining attributes, is what was there before, followed by all attributes.
use Rattle.std.proofs.Common.{◌≡◌, ℕ, List, drop}
use Rattle.dbus_marshal.specs.Putting.{puts}
use Rattle.secret_calls.specs.Outs.{attribute_values}
use Rattle.secret_calls.proofs.property.AttributesPutValues.put_to.Given as goal

abbrev pub invariant-loop-attribute : goal.invariant-loop-attribute
invariant-loop-attribute g l = (before : List ℕ) → g.P.Put.stands l.fn.out before
    → (so_far : List ℕ) × g.P.Put.stands l.out so_far × (puts so_far (attribute_values (drop l.attribute-index l.self.attributes.now)) ≡ puts before (attribute_values l.self.attributes.now))
