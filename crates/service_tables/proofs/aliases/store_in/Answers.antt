use Rattle.std.proofs.Common.{Ok, Err, ap, ◌∙◌}
use Rattle.alias_table.specs.declared.refused.AliasRefused.TheVariants as refused
use Rattle.service_tables.specs.declared.fate.StoreFate.TheVariants as fate
use Rattle.service_tables.proofs.KeptLemmas.{certain-known, rows-become-set, sets-ended, some-set}
use Rattle.service_tables.proofs.aliases.store_in.Goals as goal

-- the file is known, so there is no resolve, and the name was tested
pub unreachable-requires : goal.unreachable-requires
unreachable-requires g c =
    sets-ended _ c.args.change c.args.table.now.rows c.set.new.self.rows c.set.result (Err refused.BadName) c.requires.known (c.in-Err-BadName.is ∙ ap Err c.in-Err-BadName.field-0-is) c.set.ensures.sets

pub unreachable-requires-in-Err-FaultRead : goal.unreachable-requires-in-Err-FaultRead
unreachable-requires-in-Err-FaultRead g c =
    sets-ended _ c.args.change c.args.table.now.rows c.set.new.self.rows c.set.result (Err refused.FaultRead) c.requires.known (c.in-Err-FaultRead.is ∙ ap Err c.in-Err-FaultRead.field-0-is) c.set.ensures.sets

pub unreachable-requires-in-Err-OutOfMemory : goal.unreachable-requires-in-Err-OutOfMemory
unreachable-requires-in-Err-OutOfMemory g c =
    sets-ended _ c.args.change c.args.table.now.rows c.set.new.self.rows c.set.result (Err refused.OutOfMemory) c.requires.known (c.in-Err-OutOfMemory.is ∙ ap Err c.in-Err-OutOfMemory.field-0-is) c.set.ensures.sets

-- these aliases were to be stored
pub returns-in-Ok-clause-rows : goal.returns-in-Ok-clause-rows
returns-in-Ok-clause-rows g c =
    rows-become-set fate.Stored c.args.change.next c.args.table.now.rows c.set.new.self.rows
    (sets-ended _ c.args.change c.args.table.now.rows c.set.new.self.rows c.set.result (Ok c.in-Ok.field-0) c.requires.known c.in-Ok.is c.set.ensures.sets)

pub returns-in-Ok-clause-few : goal.returns-in-Ok-clause-few
returns-in-Ok-clause-few g c =
    some-set c.args.change.next _
    (sets-ended _ c.args.change c.args.table.now.rows c.set.new.self.rows c.set.result (Ok c.in-Ok.field-0) c.requires.known c.in-Ok.is c.set.ensures.sets)

pub returns-in-Err-FaultBefore-clause-rows : goal.returns-in-Err-FaultBefore-clause-rows
returns-in-Err-FaultBefore-clause-rows g c =
    rows-become-set fate.Before c.args.change.next c.args.table.now.rows c.set.new.self.rows
    (sets-ended _ c.args.change c.args.table.now.rows c.set.new.self.rows c.set.result (Err refused.FaultBefore) c.requires.known
    (c.in-Err-FaultBefore.is ∙ ap Err c.in-Err-FaultBefore.field-0-is) c.set.ensures.sets)

pub returns-in-Err-FaultBefore-clause-few : goal.returns-in-Err-FaultBefore-clause-few
returns-in-Err-FaultBefore-clause-few g c =
    some-set c.args.change.next _
    (sets-ended _ c.args.change c.args.table.now.rows c.set.new.self.rows c.set.result (Err refused.FaultBefore) c.requires.known
    (c.in-Err-FaultBefore.is ∙ ap Err c.in-Err-FaultBefore.field-0-is) c.set.ensures.sets)

pub returns-in-Err-FaultUnsure-clause-rows : goal.returns-in-Err-FaultUnsure-clause-rows
returns-in-Err-FaultUnsure-clause-rows g c =
    rows-become-set fate.Unsure c.args.change.next c.args.table.now.rows c.set.new.self.rows
    (sets-ended _ c.args.change c.args.table.now.rows c.set.new.self.rows c.set.result (Err refused.FaultUnsure) c.requires.known
    (c.in-Err-FaultUnsure.is ∙ ap Err c.in-Err-FaultUnsure.field-0-is) c.set.ensures.sets)

pub returns-in-Err-FaultUnsure-clause-few : goal.returns-in-Err-FaultUnsure-clause-few
returns-in-Err-FaultUnsure-clause-few g c =
    some-set c.args.change.next _
    (sets-ended _ c.args.change c.args.table.now.rows c.set.new.self.rows c.set.result (Err refused.FaultUnsure) c.requires.known
    (c.in-Err-FaultUnsure.is ∙ ap Err c.in-Err-FaultUnsure.field-0-is) c.set.ensures.sets)

-- there would be too many
pub returns-in-Err-TooMany-clause-many : goal.returns-in-Err-TooMany-clause-many
returns-in-Err-TooMany-clause-many g c =
    (sets-ended _ c.args.change c.args.table.now.rows c.set.new.self.rows c.set.result (Err refused.TooMany) c.requires.known (c.in-Err-TooMany.is ∙ ap Err c.in-Err-TooMany.field-0-is) c.set.ensures.sets).0

pub returns-in-Err-TooMany-clause-unasked : goal.returns-in-Err-TooMany-clause-unasked
returns-in-Err-TooMany-clause-unasked g c =
    let how = c.in-Err-TooMany.is ∙ ap Err c.in-Err-TooMany.field-0-is in
    let rows = (sets-ended _ c.args.change c.args.table.now.rows c.set.new.self.rows c.set.result (Err refused.TooMany) c.requires.known how c.set.ensures.sets).1 in
    let slot = c.set.ensures.idle (certain-known c.args.table.now.rows.file c.requires.known) how in
    λ i. record { slot = slot i; rows = rows i }
