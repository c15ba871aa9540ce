use Rattle.connection_worker.proofs.ReplyLemmas.{replies-among}
use Rattle.connection_worker.proofs.serving_laws.each_request_has_one_reply.Goals as goal

pub returns : goal.returns
returns c = replies-among
