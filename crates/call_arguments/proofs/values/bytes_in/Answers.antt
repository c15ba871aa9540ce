use Rattle.call_arguments.proofs.ValueLemmas.{no_bytes}
use Rattle.call_arguments.proofs.values.bytes_in.Goals as goal

pub returns-in_default : goal.returns-in_default
returns-in_default c = no_bytes c.args.value.now c.in_default.not-Bytes
