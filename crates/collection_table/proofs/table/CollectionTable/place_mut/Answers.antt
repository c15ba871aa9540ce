use Rattle.std.proofs.Common.{◌-◌, refl}
use Rattle.collection_table.proofs.EntryLemmas.{placed_in_order, set-place, value_there}
use Rattle.collection_table.proofs.table.CollectionTable.place_mut.Goals as goal

-- the stems are as before, whatever the collection becomes
pub invariant_of-self-lent : goal.invariant_of-self-lent
invariant_of-self-lent g c = λ w. placed_in_order c.self.inside.entries.items c.args.place c.index_mut-entry.result.now w c.index_mut-entry.ensures.value c.self.invariant

pub returns : goal.returns
returns g c = rw (← c.self.view_is) (
  (refl, λ w i. record { entries = set-place c.self.inside.entries.items c.args.place c.index_mut-entry.result.now w c.index_mut-entry.ensures.value i; room = c.self.inside.entries.cap - c.self.inside.entries.len }),
  record { writes_back = tt; value = value_there c.self.inside.entries.items c.args.place c.index_mut-entry.result.now (rw (← c.self.view_is) at c.requires) c.index_mut-entry.ensures.value },
)
