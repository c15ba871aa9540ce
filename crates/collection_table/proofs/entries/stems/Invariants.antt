use Rattle.std.proofs.Common.{◌≡◌, ◌++◌, drop}
use Rattle.std.specs.Map.{keys_of}
use Rattle.collection_table.proofs.entries.stems.Given as goal

-- what was copied, and what is left
abbrev pub invariant-loop-place : goal.invariant-loop-place
invariant-loop-place g l = l.stems.items ++ keys_of (drop l.place l.entries) ≡ keys_of l.entries
