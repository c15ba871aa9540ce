use Rattle.std.proofs.Common.{refl}
use Rattle.service_tables.specs.Connections.{left}
use Rattle.service_tables.proofs.ConnectionLemmas.{below-changed}
use Rattle.service_tables.proofs.connections.Connections.leave.Goals as goal

pub invariant_of-self : goal.invariant_of-self
invariant_of-self c = rw c.leave.ensures.rows (below-changed c.self.inside.next c.args.conn left c.self.inside.outboxes.rows (λ row. refl) c.self.invariant)
