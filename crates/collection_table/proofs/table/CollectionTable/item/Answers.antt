use Rattle.std.proofs.Common.{◌∙◌}
use Rattle.collection_table.proofs.RowLemmas.{item-missing, item-there}
use Rattle.collection_table.proofs.table.CollectionTable.item.Goals as goal

-- the collection is that of its row
pub returns-in-Some : goal.returns-in-Some
returns-in-Some g c = c.item.ensures ∙ item-there c.args.stem.now c.args.id.0 c.args.self.now.entries c.in-Some.collection.now c.in-Some.ensures

pub returns-in-None : goal.returns-in-None
returns-in-None g c = item-missing c.args.stem.now c.args.id.0 c.args.self.now.entries c.in-None.ensures
