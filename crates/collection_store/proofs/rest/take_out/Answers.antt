use Rattle.std.proofs.Common.{◌≡◌, None, sym, rules}
use Rattle.item_store.specs.Rows.{row_at}
use Rattle.item_store.proofs.RowLemmas.{without-none}
use Rattle.collection_store.proofs.rest.take_out.Goals as goal

pub returns-then-is_none : goal.returns-then-is_none
returns-then-is_none c =
    let none : row_at c.args.id.0 c.args.items.now ≡ None = search rules in
    sym (without-none c.args.id.0 c.args.items.now none)
