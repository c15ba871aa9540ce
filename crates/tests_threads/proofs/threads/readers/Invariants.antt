use Rattle.std.proofs.Common.{◌≡◌}
use Rattle.shared_turn.specs.Shares.{IsFirst}
use Rattle.tests_threads.proofs.threads.readers.Given as goal

-- the pass is of the same service
abbrev pub invariant-loop : goal.invariant-loop
invariant-loop g l = (l.pass.home.table ≡ l.initial.pass.home.table) × IsFirst l.pass.home.share
