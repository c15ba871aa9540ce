use Rattle.std.proofs.Common.{◌≡◌, ◌++◌, drop}
use Rattle.attribute_index.specs.Entries.{entries_of}
use Rattle.attribute_index.proofs.entries.all_entries.Given as goal

-- what was appended, and what is left
abbrev pub invariant-loop-place : goal.invariant-loop-place
invariant-loop-place l = l.entries.items ++ entries_of (drop l.place l.items) ≡ entries_of l.items
