-- The bytes so far don't end the line.
use Rattle.std.proofs.Common.{◌≡◌, length}
use Rattle.load_plan.specs.Answered.{behind_line}
use Rattle.load_plan.proofs.answered.behind_line.Given as goal

abbrev pub invariant-loop-rest : goal.invariant-loop-rest
invariant-loop-rest l = behind_line l.rest ≡ behind_line l.written

abbrev pub decreases-loop-rest : goal.decreases-loop-rest
decreases-loop-rest l = length l.rest
