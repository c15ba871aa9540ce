use Rattle.call_arguments.proofs.ValueLemmas.{no_entry}
use Rattle.call_arguments.proofs.values.entry_in.Goals as goal

pub returns-in_default : goal.returns-in_default
returns-in_default c = λ t. no_entry t c.args.value.now c.in_default.not-DictEntry
