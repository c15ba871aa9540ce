use Rattle.std.proofs.Common.{◌∙◌}
use Rattle.service_tables.proofs.ObjectLemmas.{times-missing, times-there}
use Rattle.service_tables.proofs.disk.Disk.times.Goals as goal

-- the times are those of the collection's row
pub returns-in-Some : goal.returns-in-Some
returns-in-Some g c =
    (λ i. record { created = c.created.ensures i; modified = c.modified.ensures i })
    ∙ times-there c.args.stem.now c.args.self.now.collections.entries c.in-Some.collection.now c.in-Some.ensures

pub returns-in-None : goal.returns-in-None
returns-in-None g c = c.no_times.ensures ∙ times-missing c.args.stem.now c.args.self.now.collections.entries c.in-None.ensures
