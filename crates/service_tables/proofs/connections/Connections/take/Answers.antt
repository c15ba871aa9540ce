use Rattle.std.proofs.Common.{refl}
use Rattle.service_tables.specs.Connections.{emptied}
use Rattle.service_tables.proofs.ConnectionLemmas.{below-changed}
use Rattle.service_tables.proofs.connections.Connections.take.Goals as goal

pub invariant_of-self : goal.invariant_of-self
invariant_of-self c = rw c.take.ensures.rows (below-changed c.self.inside.next c.args.conn emptied c.self.inside.outboxes.rows (λ row. refl) c.self.invariant)
