use Rattle.std.proofs.Common.{IsFalse}
use Rattle.tests_outside.proofs.memory.taken.Given as goal

-- the sink is open
abbrev pub invariant-loop-word : goal.invariant-loop-word
invariant-loop-word g l = IsFalse (g.S.Sink.is_closed l.sink)
