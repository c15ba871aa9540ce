use Rattle.std.proofs.Common.{◌≡◌, take}
use Rattle.idle_lock.specs.Deadline.{due}
use Rattle.idle_lock.specs.History.{History, times_of}
use Rattle.idle_lock.proofs.plan.due_stems.Given as goal

-- the stems so far are those that are due of the timers so far
abbrev pub invariant-loop-place : goal.invariant-loop-place
invariant-loop-place l = (history : History) → l.times ≡ times_of history l.timers → l.found.items ≡ due history l.now (take l.place l.timers)
