use Rattle.std.proofs.Common.{take}
use Rattle.attribute_index.specs.Index.{IsLean, IsTaken, is_own}
use Rattle.attribute_index.proofs.names.take_all.Given as goal

abbrev pub invariant-loop-place : goal.invariant-loop-place
invariant-loop-place l = IsTaken (is_own (take l.place l.pairs) l.but) l.id.0 l.initial.names l.names × (IsLean l.initial.names → IsLean l.names)
