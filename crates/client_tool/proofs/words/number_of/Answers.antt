use Rattle.std.proofs.Common.{rules}
use Rattle.std.specs.declared.num.ParseIntError.{ParseIntError}
use Rattle.command_words.proofs.NumberLemmas.{not_read, not_printed}
use Rattle.client_tool.proofs.words.number_of.Goals as goal

pub returns-else-eq : goal.returns-else-eq
returns-else-eq c = not_printed ParseIntError c.args.text.now c.format.result.now c.in-Ok.number c.in-Ok.ensures.value.0 c.format.ensures.text (search rules)

pub returns-in-Err : goal.returns-in-Err
returns-in-Err c = not_read c.args.text.now c.in-Err.field-0 c.in-Err.ensures.value.0
