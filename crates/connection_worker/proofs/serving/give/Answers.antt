use Rattle.service_desk.specs.Places.{place}
use Rattle.connection_worker.proofs.GiveLemmas.{taken-idle}
use Rattle.connection_worker.proofs.serving.give.Goals as goal

-- nothing waits any more
pub find_loss-requires-clause-taken : goal.find_loss-requires-clause-taken
find_loss-requires-clause-taken g c =
    let desk = g.D.Desk in
    taken-idle (place desk.told desk.has_seen c.args.desk.now) (place desk.told desk.has_seen c.take.new.self) c.in-Outs.outs c.requires.alone c.requires.owed c.in-Outs.ensures
