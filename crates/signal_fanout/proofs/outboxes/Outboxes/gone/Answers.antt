use Rattle.signal_fanout.proofs.outboxes.Outboxes.gone.Goals as goal

pub invariant_of-self : goal.invariant_of-self
invariant_of-self c = record {
  ordered = c.remove.ensures.ordered;
  counts = c.remove.ensures.counts c.self.invariant.counts;
}

pub returns : goal.returns
returns c = record { rows = rw (← c.self.view_is) c.remove.ensures.rows }
