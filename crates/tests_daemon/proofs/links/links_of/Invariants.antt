use Rattle.std.proofs.Common.{IsFalse}
use Rattle.tests_daemon.proofs.links.links_of.Given as goal

-- the listener hasn't ended
abbrev pub invariant-loop-word : goal.invariant-loop-word
invariant-loop-word l = IsFalse l.links.has_ended
