use Rattle.signal_fanout.proofs.outboxes.Outboxes.has.Goals as goal

pub returns : goal.returns
returns c = rw (← c.self.view_is) c.has.ensures
