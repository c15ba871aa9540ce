use Rattle.std.proofs.Common.{refl}
use Rattle.collection_table.specs.Entries.{row_of}
use Rattle.collection_table.proofs.RowLemmas.{rows-changed}
use Rattle.collection_table.proofs.row_laws.a_changed_collection_changes_its_row.Goals as goal

pub returns : goal.returns
returns g c = λ stem collection entries. rows-changed stem (λ _. collection) (λ _. row_of collection) (λ _. refl) entries
