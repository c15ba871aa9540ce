use Rattle.connection_worker.proofs.WholeLemmas.{whole-end}
use Rattle.connection_worker.proofs.serving_laws.complete_messages_are_read_to_their_end.Goals as goal

pub returns : goal.returns
returns c = whole-end
