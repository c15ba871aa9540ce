use Rattle.std.proofs.Common.{◌≡◌, ◌++◌, drop}
use Rattle.hashed_index.specs.Entries.{entries_from}
use Rattle.hashed_index.proofs.entries.all_entries.Given as goal

-- what was appended, and what is left
abbrev pub invariant-loop-place : goal.invariant-loop-place
invariant-loop-place l = l.entries.items ++ entries_from l.place (drop l.place l.items) ≡ entries_from 0 l.items
