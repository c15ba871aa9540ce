use Rattle.std.proofs.Common.{drop}
use Rattle.attribute_index.specs.Entries.{HasSame}
use Rattle.attribute_index.specs.Index.{AllRise, IsLean}
use Rattle.attribute_index.proofs.chain.put_left.Given as goal

-- what was put, and what is to come
abbrev pub invariant-loop-entry : goal.invariant-loop-entry
invariant-loop-entry l =
    HasSame l.pairs (drop l.entry-index l.left) l.initial.pairs l.left ×
    (AllRise l.initial.pairs → AllRise l.pairs) ×
    (IsLean l.initial.pairs → IsLean l.pairs)
