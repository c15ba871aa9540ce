use Rattle.connection_worker.proofs.ReplyLemmas.{single-replies}
use Rattle.connection_worker.proofs.serving_laws.no_reply_is_lost.Goals as goal

pub returns : goal.returns
returns c = single-replies
