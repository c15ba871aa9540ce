use Rattle.std.proofs.Common.{◌∙◌}
use Rattle.collection_table.proofs.RowLemmas.{open-missing, open-there, tested}
use Rattle.collection_table.proofs.table.CollectionTable.is_open.Goals as goal

-- the collection is that of its row
pub returns-in-Some : goal.returns-in-Some
returns-in-Some g c = tested c.is_open.result c.in-Some.collection.now.held c.is_open.ensures.value ∙ open-there c.args.stem.now c.args.self.now.entries c.in-Some.collection.now c.in-Some.ensures

pub returns-in-None : goal.returns-in-None
returns-in-None g c = open-missing c.args.stem.now c.args.self.now.entries c.in-None.ensures
