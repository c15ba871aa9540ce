use Rattle.std.proofs.Common.{ℕ, ◌+◌, take}
use Rattle.kr_base.specs.declared.ids.ConnId.{ConnId}
use Rattle.signal_fanout.specs.Outboxes.{count_to}
use Rattle.signal_fanout.specs.Boxes.{AreSame, HoldsOf, IsReady}
use Rattle.signal_fanout.proofs.boxes.expect_each.Given as goal

-- the outputs so far are expected
abbrev pub invariant-loop-sent : goal.invariant-loop-sent
invariant-loop-sent l =
    ((count : ℕ) (conn : ConnId) → HoldsOf (IsReady count) conn.0 l.fn.boxes.entries → HoldsOf (IsReady (count + count_to conn (take l.sent-index l.outs))) conn.0 l.boxes.entries) ×
    AreSame l.fn.boxes.entries l.boxes.entries
