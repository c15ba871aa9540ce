use Rattle.client_core.proofs.ReplyLemmas.{no_bytes_there}
use Rattle.client_core.proofs.secrets.bytes_there.Goals as goal

pub returns-in_default : goal.returns-in_default
returns-in_default c = no_bytes_there c.args.value.now c.in_default.not-Bytes
