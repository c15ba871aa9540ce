use Rattle.command_words.proofs.CommandLemmas.{no_stdio, has_stdio, on_err}
use Rattle.command_words.proofs.commands.stdio_line.Goals as goal

pub returns-in_default-clause-answer : goal.returns-in_default-clause-answer
returns-in_default-clause-answer c = no_stdio c.args.folder.now c.args.user.now c.in_default.ensures

pub returns-in_err-folder-clause-memory : goal.returns-in_err-folder-clause-memory
returns-in_err-folder-clause-memory c = on_err c.from_residual.result (has_stdio c.args.folder.now c.args.user.now c.in-Some.uid c.in-Some.ensures)
