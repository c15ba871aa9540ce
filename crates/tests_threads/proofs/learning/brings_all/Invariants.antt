use Rattle.std.proofs.Common.{◌≡◌}
use Rattle.tests_threads.proofs.learning.brings_all.Given as goal

-- the pass is of the same service
abbrev pub invariant-loop-call : goal.invariant-loop-call
invariant-loop-call g l = (goal.iterator-loop-call g).can_next l.call-iterator × (goal.iterator-loop-call g).is_finite l.call-iterator × (l.pass.home ≡ l.initial.pass.home)
