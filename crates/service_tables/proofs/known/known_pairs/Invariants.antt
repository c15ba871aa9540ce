use Rattle.std.proofs.Common.{take}
use Rattle.std.specs.List.{AllByRecursion}
use Rattle.keyring_file.specs.Known.{IsKnownPair}
use Rattle.service_tables.proofs.known.known_pairs.Given as goal

abbrev pub invariant-loop-pair : goal.invariant-loop-pair
invariant-loop-pair l = AllByRecursion IsKnownPair (take l.pair-index l.pair-items)
