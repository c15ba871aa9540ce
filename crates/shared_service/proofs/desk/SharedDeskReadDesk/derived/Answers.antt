use Rattle.shared_service.proofs.desk.SharedDeskReadDesk.derived.Goals as goal

pub invariant_of-self-clause-legal : goal.invariant_of-self-clause-legal
invariant_of-self-clause-legal g c = c.has_seen_a_history.ensures.legal

pub invariant_of-self-clause-places : goal.invariant_of-self-clause-places
invariant_of-self-clause-places g c = c.has_seen_a_history.ensures.places
