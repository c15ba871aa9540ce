use Rattle.call_arguments.proofs.ValueLemmas.{not_string}
use Rattle.call_arguments.proofs.values.is_string.Goals as goal

pub returns-in_default : goal.returns-in_default
returns-in_default c = not_string c.args.basic c.in_default.not-String
