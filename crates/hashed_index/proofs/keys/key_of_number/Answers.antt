use Rattle.std.proofs.Common.{rules}
use Rattle.std.specs.declared.num.ParseIntError.{ParseIntError}
use Rattle.hashed_index.proofs.KeyLemmas.{number_read, number_not_read}
use Rattle.hashed_index.proofs.keys.key_of_number.Goals as goal

pub returns-in-Ok : goal.returns-in-Ok
returns-in-Ok c = number_read ParseIntError c.args.name.now c.args.text.now c.in-Ok.number c.number_key.result c.in-Ok.ensures.value.0 (search rules)

pub returns-in-Err : goal.returns-in-Err
returns-in-Err c = number_not_read c.args.name.now c.args.text.now c.in-Err.field-0 c.in-Err.ensures.value.0
