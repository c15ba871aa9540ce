use Rattle.std.proofs.Common.{◌≡◌, [], ◌∷◌, ◌++◌, length, take, drop}
use Rattle.idle_lock.specs.History.{History, times_of}
use Rattle.idle_lock.proofs.plan.tell_all.Given as goal

-- the times up to this place are new, and those from there on are as they were
abbrev pub invariant-loop-place : goal.invariant-loop-place
invariant-loop-place l = record {
  lengths : length l.times ≡ length l.timers;
  left : drop l.place l.times ≡ drop l.place l.fn.times;
  written : (history : History) → l.fn.times ≡ times_of history l.timers
      → take l.place l.times ≡ times_of (history ++ (l.stem, l.told) ∷ []) (take l.place l.timers);
}
