use Rattle.command_words.proofs.NumberLemmas.{too_great}
use Rattle.command_words.proofs.numbers.short_number.Goals as goal

pub returns-in-Err : goal.returns-in-Err
returns-in-Err c = too_great c.in-Some.number c.args.text.now c.in-Some.ensures c.in-Err.ensures
