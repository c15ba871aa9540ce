use Rattle.std.proofs.Common.{◌≡◌, ◌++◌, drop}
use Rattle.service_tables.specs.Objects.{unlocked_paths}
use Rattle.service_tables.proofs.paths.unlocked_paths.Given as goal

-- the paths so far, and those of what is left
abbrev pub invariant-loop-matches : goal.invariant-loop-matches
invariant-loop-matches l = l.paths.items ++ unlocked_paths (drop l.matches-index l.found) ≡ unlocked_paths l.found
