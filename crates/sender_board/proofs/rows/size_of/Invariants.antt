use Rattle.std.proofs.Common.{◌≡◌, ◌+◌, ◌<◌, ◌≤◌, ◌^◌, take}
use Rattle.sender_board.specs.Rows.{size_in}
use Rattle.sender_board.proofs.rows.size_of.Given as goal

-- the bytes so far, or the greatest number
abbrev pub invariant-loop-call : goal.invariant-loop-call
invariant-loop-call g l = record {
  exact : l.size + 1 < 2 ^ 64 → l.size ≡ size_in (take l.call-index l.calls);
  least : l.size ≤ size_in (take l.call-index l.calls);
}
