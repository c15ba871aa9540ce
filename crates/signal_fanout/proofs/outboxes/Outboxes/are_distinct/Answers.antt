use Rattle.signal_fanout.proofs.outboxes.Outboxes.are_distinct.Goals as goal

pub returns : goal.returns
returns c = rw (← c.self.view_is) c.are_distinct.ensures
