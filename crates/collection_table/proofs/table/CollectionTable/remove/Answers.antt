use Rattle.std.proofs.Common.{◌∙◌, ap, not}
use Rattle.kr_base.specs.Attributes.{is_name}
use Rattle.collection_table.specs.Entries.{rows_of, slots_of}
use Rattle.collection_table.proofs.EntryLemmas.{order_kept}
use Rattle.collection_table.proofs.RowLemmas.{rows-without, slots-without}
use Rattle.collection_table.proofs.table.CollectionTable.remove.Goals as goal

pub invariant_of-self : goal.invariant_of-self
invariant_of-self g c = rw c.remove.ensures.entries (order_kept (λ e. not (is_name c.args.stem.now e.0)) c.self.inside.entries.items c.self.invariant)

pub returns-clause-room : goal.returns-clause-room
returns-clause-room g c = rw (← c.self.view_is) c.remove.ensures.room

pub returns-clause-rows : goal.returns-clause-rows
returns-clause-rows g c = rw (← c.self.view_is) (ap rows_of c.remove.ensures.entries ∙ rows-without c.args.stem.now c.self.inside.entries.items)

pub returns-clause-slots : goal.returns-clause-slots
returns-clause-slots g c = rw (← c.self.view_is) (ap slots_of c.remove.ensures.entries ∙ slots-without c.args.stem.now c.self.inside.entries.items)
