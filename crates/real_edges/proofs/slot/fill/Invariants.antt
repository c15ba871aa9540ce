use Rattle.std.proofs.Common.{◌≤◌, ◌-◌, length, IsFalse}
use Rattle.real_edges.proofs.slot.fill.Given as goal

-- no more was read than there is room for, and the input is open
abbrev pub invariant-loop-count : goal.invariant-loop-count
invariant-loop-count g l = record {
  within : l.count ≤ length l.buffer;
  is_open : IsFalse (g.I.Source.is_closed l.input);
}

-- each call reads some more
abbrev pub decreases-loop-count : goal.decreases-loop-count
decreases-loop-count g l = length l.buffer - l.count
