use Rattle.std.proofs.Common.{refl}
use Rattle.item_store.specs.Rows.{Row}
use Rattle.item_store.proofs.IndexLemmas.{kept-moved}
use Rattle.item_store.proofs.store.move_row.Goals as goal

pub returns-clause-kept : goal.returns-clause-kept
returns-clause-kept c =
    kept-moved c.args.rows.now c.set_attributes.new.rows c.args.index.now c.move_id.new.index c.args.number (λ (row : Row). record row { item = record row.item { attributes = c.args.attributes; modified = c.args.now } }) c.args.attributes
    c.requires.kept c.requires.there (λ row. refl) c.set_attributes.ensures.set c.in_default.ensures.moved c.move_id.ensures.all
