-- What was put so far, followed by the remaining secrets, is what was there before, followed by all secrets.
use Rattle.std.proofs.Common.{◌≡◌, ℕ, List, drop}
use Rattle.dbus_marshal.specs.Putting.{puts}
use Rattle.secret_calls.specs.Outs.{secret_values}
use Rattle.secret_calls.proofs.returns.SecretsPutValues.put_to.Given as goal

abbrev pub invariant-loop-secret : goal.invariant-loop-secret
invariant-loop-secret g l = (before : List ℕ) → g.P.Put.stands l.fn.out before
    → (so_far : List ℕ) × g.P.Put.stands l.out so_far × (puts so_far (secret_values (drop l.secret-index l.self.secrets.now)) ≡ puts before (secret_values l.self.secrets.now))
