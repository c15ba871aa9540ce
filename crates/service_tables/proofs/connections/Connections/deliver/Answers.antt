use Rattle.service_tables.proofs.ConnectionLemmas.{below-handed}
use Rattle.service_tables.proofs.connections.Connections.deliver.Goals as goal

pub invariant_of-self : goal.invariant_of-self
invariant_of-self c = rw c.deliver.ensures.rows (below-handed c.self.inside.next c.args.outs.items c.self.inside.outboxes.rows c.self.invariant)

pub deliver-requires : goal.deliver-requires
deliver-requires c = rw (← c.self.view_is) at c.requires
