use Rattle.connection_worker.proofs.ReplyLemmas.{single-outputs}
use Rattle.connection_worker.proofs.serving_laws.each_request_is_answered_at_once.Goals as goal

pub returns : goal.returns
returns c = single-outputs
