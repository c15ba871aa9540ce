use Rattle.std.proofs.Common.{◌≡◌, [], drop}
use Rattle.std.specs.List.{zip}
use Rattle.keyring_seal.specs.Arranged.{row_number}
use Rattle.keyring_seal.specs.Order.{entered}
use Rattle.keyring_seal.proofs.OrderLemmas.{changed}
use Rattle.keyring_seal.proofs.order.in_order.Given as goal

-- the rows that were inserted, and those that are still to come
abbrev pub invariant-loop-i : goal.invariant-loop-i
invariant-loop-i l =
    entered row_number (changed (λ row. (row.0.now, row.1.now)) l.standing.entries) (zip (drop l.i l.clear) (drop l.i l.full)) ≡ entered row_number [] (zip l.clear l.full)
