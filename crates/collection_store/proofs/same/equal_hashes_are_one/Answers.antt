use Rattle.collection_store.proofs.SameLemmas.{same_lists}
use Rattle.collection_store.proofs.same.equal_hashes_are_one.Goals as goal

pub returns : goal.returns
returns c one other is = same_lists _ c.equal_pairs_are_one.ensures one other is
