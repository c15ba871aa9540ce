use Rattle.std.proofs.Common.{◌≡◌, ◌++◌}
use Rattle.sha2.specs.Sha256.{sha256}
use Rattle.key_derivation.specs.Kdf.{hashed}
use Rattle.key_derivation.proofs.derived.derive.Given as goal

abbrev pub invariant-loop-i : goal.invariant-loop-i
invariant-loop-i l = l.digest ≡ hashed l.i (sha256 (l.fn.password ++ l.fn.salt))
