use Rattle.item_store.proofs.RowLemmas.{rows-same}
use Rattle.item_store.proofs.item_laws.rising_rows_are_one_list.Goals as goal

pub returns : goal.returns
returns c = rows-same
