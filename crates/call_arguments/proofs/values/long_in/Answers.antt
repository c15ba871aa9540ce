use Rattle.call_arguments.proofs.ValueLemmas.{no_long}
use Rattle.call_arguments.proofs.values.long_in.Goals as goal

pub returns-in_default : goal.returns-in_default
returns-in_default c = no_long c.args.value.now c.in_default.not-Uint64
