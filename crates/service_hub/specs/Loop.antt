-- Why the links of a listener aren't accepted any more.
use Rattle.std.specs.Prelude.{◌≡◌, ℕ, Bool, IsTrue, Option, Some}
use Rattle.kr_outside.specs.Faults.{Rose}
use Rattle.daemon.specs.declared.accepting.LoopEnd.{LoopEnd}
use Rattle.daemon.specs.declared.accepting.LoopEnd.TheVariants as loop

-- Of a listener that has given so many links: it has ended; or the links are as many as were to be accepted; or its count of faults
-- rose; or memory ran out.
abbrev pub HasLoopCause : LoopEnd → Option ℕ → ℕ → Bool → ℕ → ℕ → Type 0
HasLoopCause loop.Ended most given has_ended old new = IsTrue has_ended
HasLoopCause loop.Reached most given has_ended old new = most ≡ Some given
HasLoopCause loop.ListenFault most given has_ended old new = Rose old new
HasLoopCause loop.Memory most given has_ended old new = Unit {0}
