use Rattle.call_arguments.proofs.ValueLemmas.{no_truth}
use Rattle.call_arguments.proofs.values.truth_in.Goals as goal

pub returns-in_default : goal.returns-in_default
returns-in_default c = no_truth c.args.value.now c.in_default.not-Boolean
