use Rattle.std.proofs.Common.{◌∙◌}
use Rattle.keyring_seal.proofs.WholeLemmas.{then_holds}
use Rattle.collection_store.proofs.SearchLemmas.{found_held}
use Rattle.collection_store.proofs.collection.Collection.search.Goals as goal

pub returns-in-Some : goal.returns-in-Some
returns-in-Some g c =
    let opens = rw c.in-Some.is at c.self.invariant.opens in
    let held = c.in-Some.held in
    rw (← c.self.view_is, c.in-Some.is) (then_holds _ _ c.search.result (λ ids e. e ∙ found_held c.args.wanted.now c.self.inside.cell.file c.self.inside.told c.self.inside.told held.key held.vector held.items held.written opens) c.search.ensures)
