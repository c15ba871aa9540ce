use Rattle.std.proofs.Common.{◌∙◌, ap}
use Rattle.collection_table.specs.Entries.{closed, rows_of, slots_of}
use Rattle.collection_table.proofs.EntryLemmas.{changed_in_order}
use Rattle.collection_table.proofs.RowLemmas.{rows-locked, slots-locked}
use Rattle.collection_table.proofs.table.CollectionTable.lock.Goals as goal

pub invariant_of-self : goal.invariant_of-self
invariant_of-self g c = rw c.lock.ensures.entries (changed_in_order c.args.stem.now closed c.self.inside.entries.items c.self.invariant)

pub returns : goal.returns
returns g c = rw (← c.self.view_is) (record {
  closed = λ i. record { entries = c.lock.ensures.entries i; room = c.lock.ensures.room i };
  rows = ap rows_of c.lock.ensures.entries ∙ rows-locked c.args.stem.now c.self.inside.entries.items;
  slots = ap slots_of c.lock.ensures.entries ∙ slots-locked c.args.stem.now c.self.inside.entries.items;
})
