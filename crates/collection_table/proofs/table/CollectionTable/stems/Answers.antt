use Rattle.std.proofs.Common.{◌≡◌, ◌∙◌, IfOk, ap, subst}
use Rattle.std.specs.Map.{keys_of}
use Rattle.collection_table.proofs.RowLemmas.{keys-rows}
use Rattle.collection_table.proofs.table.CollectionTable.stems.Goals as goal

-- the rows have the stems of the collections
pub returns : goal.returns
returns g c = rw (← c.self.view_is) (
    subst (λ l. IfOk c.stems.result (λ stems. stems.items ≡ l)) (ap keys_of c.deref.ensures.value ∙ keys-rows c.self.inside.entries.items) c.stems.ensures)
