use Rattle.collection_table.proofs.EntryLemmas.{others_stay}
use Rattle.collection_table.proofs.row_laws.other_collections_stay.Goals as goal

pub returns : goal.returns
returns g c = λ stem other change entries apart. others_stay stem other change entries apart
