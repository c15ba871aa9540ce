use Rattle.service_calls.proofs.LeadsLemmas.{map-ok}
use Rattle.service_calls.proofs.tables.Tables.holder_of.Goals as goal

-- the item that is named
pub returns-in-Item : goal.returns-in-Item
returns-in-Item g c = rw c.in-Item.is (map-ok c.item_held.result _ _ (λ held is brought. is c.args.conn brought) c.item_held.ensures)
