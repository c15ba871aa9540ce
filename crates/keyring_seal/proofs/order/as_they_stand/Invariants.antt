use Rattle.std.proofs.Common.{◌≡◌, ◌++◌, drop, map}
use Rattle.std.specs.List.{zip}
use Rattle.keyring_seal.proofs.order.as_they_stand.Given as goal

-- the rows that were collected, and those that are still to come
abbrev pub invariant-loop-i : goal.invariant-loop-i
invariant-loop-i l = map (λ row. (row.0.now, row.1.now)) l.rows.items ++ zip (drop l.i l.clear) (drop l.i l.full) ≡ zip l.clear l.full
