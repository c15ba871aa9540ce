-- The messages so far are counted.
use Rattle.std.proofs.Common.{◌≡◌}
use Rattle.load_plan.proofs.AnsweredLemmas.{CountsSoFar}
use Rattle.load_plan.proofs.answered.count_messages.Given as goal

abbrev pub invariant-loop : goal.invariant-loop
invariant-loop g l = (l.framer.most ≡ l.fn.framer.most) × CountsSoFar l.fn.seed l.fn.calls l.fn.framer.rest l.framer.rest l.counts
