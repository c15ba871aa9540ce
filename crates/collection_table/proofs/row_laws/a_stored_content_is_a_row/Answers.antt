use Rattle.collection_table.proofs.RowLemmas.{row-perhaps, row-same, row-stored}
use Rattle.collection_table.proofs.row_laws.a_stored_content_is_a_row.Goals as goal

pub returns-clause-stored : goal.returns-clause-stored
returns-clause-stored g c = λ content key vector new is. row-stored content key vector new is

pub returns-clause-perhaps : goal.returns-clause-perhaps
returns-clause-perhaps g c = λ content key vector old new is. row-perhaps content key vector old new is

pub returns-clause-same : goal.returns-clause-same
returns-clause-same g c = λ old new is. row-same old new is
