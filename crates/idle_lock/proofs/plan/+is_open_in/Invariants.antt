use Rattle.std.proofs.Common.{length}
use Rattle.idle_lock.proofs.plan.+is_open_in.Given as goal

abbrev pub decreases-is_open_in : goal.decreases-is_open_in
decreases-is_open_in l = length l.timers.now
