use Rattle.shared_service.proofs.sleepers.Sleepers.first.Goals as goal

pub returns-clause-watched : goal.returns-clause-watched
returns-clause-watched g c = c.take_out-conn.ensures.watched c.args.service.now.history.state c.requires.watched
