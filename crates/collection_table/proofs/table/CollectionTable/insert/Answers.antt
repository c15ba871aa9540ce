use Rattle.std.proofs.Common.{◌∙◌, ap}
use Rattle.collection_table.specs.Entries.{rows_of}
use Rattle.collection_table.proofs.EntryLemmas.{inserted_in_order}
use Rattle.collection_table.proofs.RowLemmas.{not-there, rows-inserted}
use Rattle.collection_table.proofs.table.CollectionTable.insert.Goals as goal

pub insert-requires-clause-none : goal.insert-requires-clause-none
insert-requires-clause-none g c = not-there c.args.stem c.self.inside.entries.items (rw (← c.self.view_is) at c.requires.none)

pub invariant_of-self : goal.invariant_of-self
invariant_of-self g c = rw c.insert.ensures.entries (inserted_in_order c.args.stem c.args.collection c.self.inside.entries.items c.self.invariant)

pub returns-clause-room : goal.returns-clause-room
returns-clause-room g c = rw (← c.self.view_is) c.insert.ensures.room

pub returns-clause-rows : goal.returns-clause-rows
returns-clause-rows g c = rw (← c.self.view_is) (ap rows_of c.insert.ensures.entries ∙ rows-inserted c.args.stem c.args.collection c.self.inside.entries.items)
