use Rattle.std.proofs.Common.{refl}
use Rattle.item_store.specs.Rows.{Row}
use Rattle.item_store.proofs.IndexLemmas.{kept-touched}
use Rattle.item_store.proofs.store.ItemStore.set_label.Goals as goal

pub invariant_of-self : goal.invariant_of-self
invariant_of-self c =
    kept-touched c.self.inside.rows c.set_label.new.rows c.self.inside.index c.args.id.0 (λ (row : Row). record row { item = record row.item { label = c.args.label; modified = c.args.now } }) (λ row. refl) c.set_label.ensures.set c.self.invariant

pub invariant_of-self-2 : goal.invariant_of-self-2
invariant_of-self-2 c =
    kept-touched c.self.inside.rows c.set_label.new.rows c.self.inside.index c.args.id.0 (λ (row : Row). record row { item = record row.item { label = c.args.label; modified = c.args.now } }) (λ row. refl) c.set_label.ensures.set c.self.invariant
