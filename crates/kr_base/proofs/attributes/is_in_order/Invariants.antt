use Rattle.std.proofs.Common.{◌+◌, take}
use Rattle.kr_base.specs.Attributes.{IsInOrder}
use Rattle.kr_base.proofs.attributes.is_in_order.Given as goal

abbrev pub invariant-loop-i : goal.invariant-loop-i
invariant-loop-i l = IsInOrder (take (l.i + 1) l.pairs)
