use Rattle.std.proofs.Common.{subst, sym}
use Rattle.item_store.specs.Moves.{with_attributes}
use Rattle.item_store.specs.Rows.{IsKept, Rows, rows_changed}
use Rattle.item_store.proofs.moving.Moving.undo.Goals as goal

pub take_new-requires : goal.take_new-requires
take_new-requires c = c.self.invariant.there

pub store_of-requires : goal.store_of-requires
store_of-requires c =
    let kept = c.self.invariant.back c.take_new.new.index.names c.take_new.ensures.taken in
    let all_kept = subst (λ all. IsKept (rows_changed c.self.inside.number (with_attributes c.self.inside.attributes c.self.inside.modified) c.self.inside.rows) (record { names = c.take_new.new.index.names; all = all })) (sym c.take_new.ensures.all) kept in
    subst (λ (rows : Rows). IsKept rows c.take_new.new.index) (sym c.swap_attributes.ensures.set) all_kept
