use Rattle.std.proofs.Common.{ℕ, take}
use Rattle.std.specs.List.{AllByRecursion}
use Rattle.signal_fanout.specs.declared.rows.Delivery.{Delivery}
use Rattle.signal_fanout.specs.Boxes.{AreSame, HoldsOf, IsReady}
use Rattle.signal_fanout.proofs.boxes.expect_none_of.Given as goal

-- none is expected of those so far
abbrev pub invariant-loop-sent : goal.invariant-loop-sent
invariant-loop-sent l =
    AllByRecursion (λ (sent : Delivery). HoldsOf (IsReady 0) sent.to.0 l.boxes.entries) (take l.sent-index l.outs) ×
    ((other : ℕ) → HoldsOf (IsReady 0) other l.fn.boxes.entries → HoldsOf (IsReady 0) other l.boxes.entries) ×
    AreSame l.fn.boxes.entries l.boxes.entries
