use Rattle.service_tables.proofs.connections.Connections.reserve.Goals as goal

pub invariant_of-self : goal.invariant_of-self
invariant_of-self c = rw c.reserve.ensures.unchanged c.self.invariant

pub returns-clause-kept : goal.returns-clause-kept
returns-clause-kept c = λ count conn room. c.reserve.ensures.kept count conn (rw (← c.self.view_is) at room)
