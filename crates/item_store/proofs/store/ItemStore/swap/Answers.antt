use Rattle.std.proofs.Common.{refl}
use Rattle.item_store.specs.Rows.{Row}
use Rattle.item_store.specs.Swapping.{with_parts}
use Rattle.item_store.proofs.IndexLemmas.{kept-touched}
use Rattle.item_store.proofs.store.ItemStore.swap.Goals as goal

pub invariant_of-self : goal.invariant_of-self
invariant_of-self c =
    kept-touched c.self.inside.rows c.swap_parts.new.rows c.self.inside.index c.args.id.0 (λ (row : Row). record row { item = with_parts c.args.parts.now row.item }) (λ row. refl) c.swap_parts.ensures.set c.self.invariant
