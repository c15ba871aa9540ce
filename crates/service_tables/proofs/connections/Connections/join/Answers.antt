use Rattle.std.proofs.Common.{◌+◌, ◌<◌, ◌∷◌, [], arith}
use Rattle.signal_fanout.specs.declared.rows.ConnRow.{ConnRow}
use Rattle.service_tables.specs.Connections.{new_row}
use Rattle.service_tables.proofs.EachLemmas.{each-append, each-weaker}
use Rattle.service_tables.proofs.connections.Connections.join.Goals as goal

-- the new number is above all, and below the next
pub invariant_of-self-2 : goal.invariant_of-self-2
invariant_of-self-2 c =
    let next = c.self.inside.next in
    let rows = c.self.inside.outboxes.rows in
    let later = each-weaker (λ (row : ConnRow). row.conn.0 < next) (λ (row : ConnRow). row.conn.0 < next + 1) (λ row below. omega (arith, below)) rows c.self.invariant in
    rw c.in_ok-add.ensures.added (each-append (λ (row : ConnRow). row.conn.0 < next + 1) rows (new_row (record { 0 = next }) ∷ []) later (omega arith, tt))
