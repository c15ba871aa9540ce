use Rattle.std.proofs.Common.{◌∙◌}
use Rattle.service_tables.proofs.ObjectLemmas.{found-missing, found-there}
use Rattle.service_tables.proofs.disk.Disk.found_in.Goals as goal

-- the collection is that of its row
pub returns-in_default : goal.returns-in_default
returns-in_default g c = c.new.ensures.items ∙ found-missing c.args.stem.now c.args.wanted.now c.args.self.now.collections.entries c.in_default.ensures

pub returns : goal.returns
returns g c =
    found-there c.args.stem.now c.args.wanted.now c.args.self.now.collections.entries c.in-Some.collection.now c.in_ok-ids.ids.items c.in-Some.ensures c.in_ok-ids.ensures
