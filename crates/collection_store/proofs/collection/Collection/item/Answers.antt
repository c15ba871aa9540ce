use Rattle.std.proofs.Common.{◌∙◌}
use Rattle.collection_store.proofs.SearchLemmas.{item_held}
use Rattle.collection_store.proofs.collection.Collection.item.Goals as goal

pub returns-in-Some : goal.returns-in-Some
returns-in-Some g c =
    let opens = rw c.in-Some.is at c.self.invariant.opens in
    let held = c.in-Some.held in
    rw (← c.self.view_is, c.in-Some.is) (c.item.ensures ∙ item_held c.args.id.0 c.self.inside.cell.file c.self.inside.told held.key held.vector held.items held.written opens)
