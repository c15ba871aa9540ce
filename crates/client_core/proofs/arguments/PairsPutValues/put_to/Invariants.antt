-- What was put so far, followed by the remaining attributes, is what was there before, followed by all attributes.
use Rattle.std.proofs.Common.{◌≡◌, ℕ, List, drop}
use Rattle.dbus_marshal.specs.Putting.{puts}
use Rattle.client_core.specs.Arguments.{attribute_values}
use Rattle.client_core.proofs.arguments.PairsPutValues.put_to.Given as goal

abbrev pub invariant-loop-name : goal.invariant-loop-name
invariant-loop-name g l = (before : List ℕ) → g.P.Put.stands l.fn.out before
    → (so_far : List ℕ) × g.P.Put.stands l.out so_far × (puts so_far (attribute_values (drop l.name-index l.self.pairs.now)) ≡ puts before (attribute_values l.self.pairs.now))
