use Rattle.std.proofs.Common.{◌≡◌, ◌++◌, drop, map}
use Rattle.attribute_index.specs.Entries.{entry_of}
use Rattle.attribute_index.proofs.entries.put_item.Given as goal

-- what was appended, and what is left
abbrev pub invariant-loop-pair : goal.invariant-loop-pair
invariant-loop-pair l = l.entries.items ++ map (entry_of l.id.0) (drop l.pair-index l.pairs) ≡ l.initial.entries.items ++ map (entry_of l.id.0) l.pairs
