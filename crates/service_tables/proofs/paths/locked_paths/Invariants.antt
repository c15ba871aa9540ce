use Rattle.std.proofs.Common.{◌≡◌, ◌++◌, drop}
use Rattle.service_tables.specs.Objects.{locked_paths}
use Rattle.service_tables.proofs.paths.locked_paths.Given as goal

-- the paths so far, and those of what is left
abbrev pub invariant-loop-matches : goal.invariant-loop-matches
invariant-loop-matches l = l.paths.items ++ locked_paths (drop l.matches-index l.found) ≡ locked_paths l.found
