use Rattle.shared_service.proofs.shared.SharedService.end.Goals as goal

pub pass_on-requires-clause-watched : goal.pass_on-requires-clause-watched
pass_on-requires-clause-watched g c = rw c.deref.ensures at c.end-called.ensures.watched
