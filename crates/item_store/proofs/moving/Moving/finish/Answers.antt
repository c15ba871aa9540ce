use Rattle.std.proofs.Common.{subst, sym}
use Rattle.item_store.specs.Rows.{IsKept}
use Rattle.item_store.proofs.moving.Moving.finish.Goals as goal

pub take_old-requires : goal.take_old-requires
take_old-requires c = c.self.invariant.there

pub store_of-requires : goal.store_of-requires
store_of-requires c =
    let kept = c.self.invariant.forward c.take_old.new.index.names c.take_old.ensures.taken in
    subst (λ all. IsKept c.self.inside.rows (record { names = c.take_old.new.index.names; all = all })) (sym c.take_old.ensures.all) kept
