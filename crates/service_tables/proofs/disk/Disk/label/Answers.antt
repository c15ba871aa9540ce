use Rattle.std.proofs.Common.{◌∙◌}
use Rattle.service_tables.proofs.ObjectLemmas.{label-missing, label-there}
use Rattle.service_tables.proofs.disk.Disk.label.Goals as goal

-- the label is that of the collection's row
pub returns-in-Some : goal.returns-in-Some
returns-in-Some g c = c.label.ensures ∙ label-there c.args.stem.now c.args.self.now.collections.entries c.in-Some.collection.now c.in-Some.ensures

pub returns-in-None : goal.returns-in-None
returns-in-None g c = label-missing c.args.stem.now c.args.self.now.collections.entries c.in-None.ensures
