use Rattle.command_words.proofs.ArgumentLemmas.{no_front}
use Rattle.command_words.proofs.beginning.option_at.Goals as goal

pub returns-in_default : goal.returns-in_default
returns-in_default c = no_front c.args.name c.args.word.now c.args.more.now (rw (c.as_str.ensures.value, c.word_of.ensures) at c.in_default.ensures)
