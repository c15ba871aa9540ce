use Rattle.std.proofs.Common.{take}
use Rattle.std.specs.List.{AllByRecursion}
use Rattle.keyring_file.specs.Known.{IsKnownAccess}
use Rattle.keyring_file.proofs.known.known_access.Given as goal

abbrev pub invariant-loop-entry : goal.invariant-loop-entry
invariant-loop-entry l = AllByRecursion IsKnownAccess (take l.entry-index l.entries)
