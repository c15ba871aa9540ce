use Rattle.command_words.proofs.NumberLemmas.{too_great}
use Rattle.client_tool.proofs.words.uid_of.Goals as goal

pub returns-in-Err : goal.returns-in-Err
returns-in-Err c = too_great c.in-Some.number c.args.text.now c.in-Some.ensures c.in-Err.ensures
