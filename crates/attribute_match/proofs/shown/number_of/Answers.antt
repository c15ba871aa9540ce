use Rattle.std.proofs.Common.{rules}
use Rattle.std.specs.declared.num.ParseIntError.{ParseIntError}
use Rattle.attribute_match.proofs.MatchLemmas.{not_read, not_printed, printed_alike}
use Rattle.attribute_match.proofs.shown.number_of.Goals as goal

pub returns-then-eq : goal.returns-then-eq
returns-then-eq c = printed_alike ParseIntError c.args.text.now c.format.result.now c.in-Ok.number c.in-Ok.ensures.value.0 c.format.ensures.text (search rules)

pub returns-else-eq : goal.returns-else-eq
returns-else-eq c = not_printed ParseIntError c.args.text.now c.format.result.now c.in-Ok.number c.in-Ok.ensures.value.0 c.format.ensures.text (search rules)

pub returns-in-Err : goal.returns-in-Err
returns-in-Err c = not_read c.args.text.now c.in-Err.field-0 c.in-Err.ensures.value.0
