use Rattle.collection_table.proofs.RowLemmas.{row-removed}
use Rattle.collection_table.proofs.row_laws.a_removal_leaves_its_row.Goals as goal

pub returns : goal.returns
returns g c = λ old new file clear other held. row-removed old new file clear other held
