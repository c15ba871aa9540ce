use Rattle.std.proofs.Common.{take}
use Rattle.std.specs.List.{AllByRecursion}
use Rattle.keyring_seal.specs.Arranged.{IsKnownLent}
use Rattle.keyring_seal.proofs.sealing.known_rows.Given as goal

abbrev pub invariant-loop-row : goal.invariant-loop-row
invariant-loop-row l = AllByRecursion IsKnownLent (take l.row-index l.rows)
