use Rattle.collection_store.proofs.StateLemmas.{kept_found}
use Rattle.collection_store.proofs.collection.Collection.resolve.Goals as goal

pub invariant_of-self-2 : goal.invariant_of-self-2
invariant_of-self-2 g c =
    let doubt = rw (← c.self.view_is) at c.requires.doubt in
    rw (c.in_ok-found.ensures.found, c.show_found.ensures.told, c.show_found.ensures.newer) (kept_found c.in_ok-found.found c.self.inside.cell.file c.self.inside.told c.self.inside.newer _ doubt c.self.invariant)
