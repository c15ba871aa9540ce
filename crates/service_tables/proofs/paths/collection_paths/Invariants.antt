use Rattle.std.proofs.Common.{◌≡◌, take}
use Rattle.service_tables.specs.Objects.{collection_paths}
use Rattle.service_tables.proofs.paths.collection_paths.Given as goal

abbrev pub invariant-loop-stem : goal.invariant-loop-stem
invariant-loop-stem l = l.paths.items ≡ collection_paths (take l.stem-index l.stems)
