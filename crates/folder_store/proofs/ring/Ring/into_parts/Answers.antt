use Rattle.folder_store.proofs.ring.Ring.into_parts.Goals as goal

-- the type guarantees it
pub returns-clause-shown : goal.returns-clause-shown
returns-clause-shown g c = rw (← c.self.view_is) c.self.invariant
