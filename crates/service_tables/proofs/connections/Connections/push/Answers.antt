use Rattle.signal_fanout.proofs.SpreadLemmas.{with-conn}
use Rattle.service_tables.specs.Connections.{with_out}
use Rattle.service_tables.proofs.ConnectionLemmas.{below-changed}
use Rattle.service_tables.proofs.connections.Connections.push.Goals as goal

pub invariant_of-self : goal.invariant_of-self
invariant_of-self c = rw c.push.ensures.rows (below-changed c.self.inside.next c.args.conn (with_out c.args.out) c.self.inside.outboxes.rows (with-conn c.args.out) c.self.invariant)

pub returns-clause-room : goal.returns-clause-room
returns-clause-room c = λ outs room. c.push.ensures.room outs (rw (← c.self.view_is) at room)
