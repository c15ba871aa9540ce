use Rattle.std.proofs.Common.{◌≡◌, take}
use Rattle.secret_calls.proofs.copies.copied_secrets.Given as goal

abbrev pub invariant-loop-secret : goal.invariant-loop-secret
invariant-loop-secret l = l.copied.items ≡ take l.secret-index l.secrets
