use Rattle.std.proofs.Common.{IsFalse}
use Rattle.tests_outside.proofs.memory.given.Given as goal

-- the source is open
abbrev pub invariant-loop-word : goal.invariant-loop-word
invariant-loop-word g l = IsFalse (g.S.Source.is_closed l.source)
