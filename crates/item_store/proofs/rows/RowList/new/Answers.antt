use Rattle.item_store.proofs.RowLemmas.{rises-none}
use Rattle.item_store.proofs.rows.RowList.new.Goals as goal

pub invariant_of-result : goal.invariant_of-result
invariant_of-result c = rw c.new.ensures.items rises-none
