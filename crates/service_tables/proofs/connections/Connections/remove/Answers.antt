use Rattle.std.proofs.Common.{◌<◌, not}
use Rattle.signal_fanout.specs.declared.rows.ConnRow.{ConnRow}
use Rattle.service_tables.specs.Connections.{is_row}
use Rattle.service_tables.proofs.EachLemmas.{each-filter}
use Rattle.service_tables.proofs.connections.Connections.remove.Goals as goal

pub invariant_of-self : goal.invariant_of-self
invariant_of-self c = rw c.gone.ensures.rows (each-filter (λ (row : ConnRow). row.conn.0 < c.self.inside.next) (λ row. not (is_row c.args.conn row)) c.self.inside.outboxes.rows c.self.invariant)
