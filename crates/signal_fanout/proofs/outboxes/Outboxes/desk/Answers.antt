use Rattle.signal_fanout.proofs.outboxes.Outboxes.desk.Goals as goal

pub returns : goal.returns
returns c = rw (← c.self.view_is) c.told.ensures
