use Rattle.client_tool.proofs.LineLemmas.{made-some, made-none}
use Rattle.client_tool.proofs.running.is_command.Goals as goal

pub returns-in-Ok-Some : goal.returns-in-Ok-Some
returns-in-Ok-Some c = made-some c.args.command.now _ _ (rw c.in-Ok-Some.field-0-is at c.in-Ok-Some.ensures)

pub returns-in-Ok-None : goal.returns-in-Ok-None
returns-in-Ok-None c = made-none c.args.command.now _ (rw c.in-Ok-None.field-0-is at c.in-Ok-None.ensures)
