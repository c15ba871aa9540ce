-- What was put so far, followed by the remaining paths, is what was there before, followed by all paths.
use Rattle.std.proofs.Common.{◌≡◌, ℕ, List, drop}
use Rattle.dbus_marshal.specs.Putting.{puts}
use Rattle.secret_calls.specs.Outs.{path_values}
use Rattle.client_core.proofs.arguments.PathsPutValues.put_to.Given as goal

abbrev pub invariant-loop-path : goal.invariant-loop-path
invariant-loop-path g l = (before : List ℕ) → g.P.Put.stands l.fn.out before
    → (so_far : List ℕ) × g.P.Put.stands l.out so_far × (puts so_far (path_values (drop l.path-index l.self.paths.now)) ≡ puts before (path_values l.self.paths.now))
