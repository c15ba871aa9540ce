use Rattle.collection_table.proofs.RowLemmas.{row-changed, row-unsure}
use Rattle.collection_table.proofs.row_laws.a_change_leaves_its_row.Goals as goal

pub returns-clause-changed : goal.returns-clause-changed
returns-clause-changed g c = λ change now old held new answer open_so is. row-changed change now old held new answer open_so is

pub returns-clause-unsure : goal.returns-clause-unsure
returns-clause-unsure g c = λ change now old held new open_so is. row-unsure change now old held new open_so is
