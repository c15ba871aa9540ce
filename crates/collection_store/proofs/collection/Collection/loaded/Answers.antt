use Rattle.collection_store.proofs.StateLemmas.{kept_loaded}
use Rattle.collection_store.proofs.collection.Collection.loaded.Goals as goal

pub invariant_of-result : goal.invariant_of-result
invariant_of-result g c = kept_loaded c.args.cell.file c.args.clear c.in_ok-told.told c.requires c.in_ok-told.ensures
