use Rattle.std.proofs.Common.{sym, ◌∙◌}
use Rattle.item_store.proofs.RowLemmas.{next-last}
use Rattle.item_store.proofs.store.ItemStore.add.Goals as goal

pub add_row-requires-clause-last : goal.add_row-requires-clause-last
add_row-requires-clause-last c = next-last c.self.inside.rows c.in-Some.number (sym c.in-Some.is ∙ c.next_number.ensures.value) c.next_number.ensures.ordered
