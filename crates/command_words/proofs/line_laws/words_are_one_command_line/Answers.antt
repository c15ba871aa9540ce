use Rattle.command_words.proofs.CommandLemmas.{one_line}
use Rattle.command_words.proofs.line_laws.words_are_one_command_line.Goals as goal

pub returns : goal.returns
returns c = one_line
