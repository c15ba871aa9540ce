use Rattle.std.proofs.Common.{ℕ, ◌+◌, ◌<◌}
use Rattle.dbus_auth.specs.Lines.{EndsAt}
use Rattle.dbus_auth_client.proofs.hearing.line_end.Given as goal

-- no line ends before this position
abbrev pub invariant-loop-place : goal.invariant-loop-place
invariant-loop-place l = (k : ℕ) → k + 1 < l.place → EndsAt l.bytes k → ⊥
