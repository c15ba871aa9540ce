use Rattle.std.proofs.Common.{◌≡◌, ◌++◌, drop, map}
use Rattle.collection_table.specs.Entries.{rows_of}
use Rattle.collection_table.specs.Rows.{found_in}
use Rattle.collection_table.proofs.entries.search.Given as goal

-- what was found, and what is found in the collections that are left
abbrev pub invariant-loop-place : goal.invariant-loop-place
invariant-loop-place g l = l.found.items ++ map (found_in l.wanted) (rows_of (drop l.place l.entries)) ≡ map (found_in l.wanted) (rows_of l.entries)
