use Rattle.std.proofs.lemmas.List.Elements.{All-from_recursion}
use Rattle.keyring_file.specs.Short.{IsShortClearItem}
use Rattle.keyring_file.specs.Canonical.{clear_item_text}
use Rattle.keyring_file.proofs.Writing.{one_more}
use Rattle.keyring_seal.proofs.writing.put_kept_items.Goals as goal

pub put_clear_item-requires : goal.put_clear_item-requires
put_clear_item-requires c = rw c.row-item.is (All-from_recursion (λ row. IsShortClearItem row.0.now) c.args.rows.now c.requires c.loop-row.row-index _ c.loop-row-test.true)

pub loop-row-preserved : goal.loop-row-preserved
loop-row-preserved c =
    one_more (λ row. clear_item_text c.args.minor row.0.now) c.args.rows.now c.loop-row.row-index c.row-item.result c.args.out.now.items c.loop-row.out.items c.put_clear_item.new.out.items c.loop-row-test.true c.row-item.is c.loop-row.invariant c.in_ok-put_clear_item.ensures
