use Rattle.std.proofs.Common.{ap}
use Rattle.service_calls.specs.Rows.{disk_of}
use Rattle.service_calls.proofs.tables.Tables.lock_one.Goals as goal

-- no slot changes
pub returns-clause-disk : goal.returns-clause-disk
returns-clause-disk g c = ap (λ slots. record (disk_of c.args.self.now) { slots = slots }) c.lock.ensures.slots
