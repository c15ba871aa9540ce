use Rattle.collection_table.proofs.RowLemmas.{slots-changed}
use Rattle.collection_table.proofs.row_laws.a_changed_collection_changes_its_slot.Goals as goal

pub returns : goal.returns
returns g c = λ stem collection entries. slots-changed stem collection entries
