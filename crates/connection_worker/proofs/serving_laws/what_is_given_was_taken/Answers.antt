use Rattle.connection_worker.proofs.TakenLemmas.{taken-single}
use Rattle.connection_worker.proofs.serving_laws.what_is_given_was_taken.Goals as goal

pub returns : goal.returns
returns c = taken-single
