use Rattle.collection_store.proofs.StateLemmas.{held_there, kept_removed}
use Rattle.collection_store.proofs.collection.Collection.delete.Goals as goal

pub remove-requires : goal.remove-requires
remove-requires g c =
    let held = rw (← c.self.view_is) at c.requires in
    held_there c.self.inside.cell.file c.self.inside.told _ c.self.invariant.opens held

pub invariant_of-self : goal.invariant_of-self
invariant_of-self g c =
    let held = rw (← c.self.view_is) at c.requires in
    let there = held_there c.self.inside.cell.file c.self.inside.told _ c.self.invariant.opens held in
    rw (c.show_again.ensures.told, c.show_again.ensures.held) (kept_removed c.remove.result c.self.inside.cell.file c.remove.new.self.file c.self.inside.told c.self.inside.newer _ c.self.invariant there c.remove.ensures.removed c.remove.ensures.unsure)
