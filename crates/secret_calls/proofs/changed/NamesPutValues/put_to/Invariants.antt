-- What was put so far, followed by the remaining names, is what was there before, followed by all names.
use Rattle.std.proofs.Common.{◌≡◌, ℕ, List, drop}
use Rattle.dbus_marshal.specs.Putting.{puts}
use Rattle.secret_calls.specs.Outs.{name_values}
use Rattle.secret_calls.proofs.changed.NamesPutValues.put_to.Given as goal

abbrev pub invariant-loop-name : goal.invariant-loop-name
invariant-loop-name g l = (before : List ℕ) → g.P.Put.stands l.fn.out before
    → (so_far : List ℕ) × g.P.Put.stands l.out so_far × (puts so_far (name_values (drop l.name-index l.self.names.now)) ≡ puts before (name_values l.self.names.now))
