use Rattle.call_arguments.proofs.ValueLemmas.{no_word}
use Rattle.call_arguments.proofs.values.word_in.Goals as goal

pub returns-in_default : goal.returns-in_default
returns-in_default c = no_word c.args.value.now c.in_default.not-Uint32
