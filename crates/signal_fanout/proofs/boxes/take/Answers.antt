use Rattle.signal_fanout.proofs.boxes.take.Goals as goal

pub returns-clause-outs : goal.returns-clause-outs
returns-clause-outs c = rw c.taken.ensures.outs at c.some_of.ensures.some

pub returns-clause-nothing : goal.returns-clause-nothing
returns-clause-nothing c = rw c.taken.ensures.outs at c.some_of.ensures.nothing
