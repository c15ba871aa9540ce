use Rattle.std.proofs.Common.{◌++◌, drop}
use Rattle.attribute_index.specs.Entries.{HasSame, IsKept, chained}
use Rattle.attribute_index.proofs.chain.put_entries.Given as goal

-- what was put or left, and what is to come
abbrev pub invariant-loop-entry : goal.invariant-loop-entry
invariant-loop-entry l =
    IsKept (chained l.done.items l.last) ×
    HasSame (chained l.done.items l.last) (l.left.items ++ drop l.entry-index l.entries) (chained l.initial.done.items l.initial.last) l.entries
