use Rattle.std.proofs.Common.{◌≡◌, ◌==◌, not, length, filter}
use Rattle.session_table.specs.Keys.{AreInOrder, AreNumbers}
use Rattle.session_table.proofs.keys.take_all.Given as goal

-- what others have is as it was
abbrev pub invariant-loop-session : goal.invariant-loop-session
invariant-loop-session l = record {
  others : filter (λ key. not (key.0 == l.owner)) l.keys.keys ≡ filter (λ key. not (key.0 == l.owner)) l.fn.keys.keys;
  ordered : AreInOrder l.keys.keys;
  numbers : AreNumbers l.keys.keys;
}

abbrev pub decreases-loop-session : goal.decreases-loop-session
decreases-loop-session l = length l.keys.keys
