use Rattle.std.proofs.lemmas.List.Elements.{All-from_recursion}
use Rattle.keyring_file.specs.Canonical.{clear_item_text}
use Rattle.keyring_file.proofs.Writing.{one_more}
use Rattle.keyring_file.specs.Short.{IsShortClearItem}
use Rattle.keyring_file.proofs.clear_writing.put_clear_items.Goals as goal

pub put_clear_item-requires : goal.put_clear_item-requires
put_clear_item-requires c = rw c.item-item.is (All-from_recursion IsShortClearItem c.args.items.now c.requires c.loop-item.item-index _ c.loop-item-test.true)

pub loop-item-preserved : goal.loop-item-preserved
loop-item-preserved c =
    one_more (clear_item_text c.args.minor) c.args.items.now c.loop-item.item-index c.item-item.result c.args.out.now.items c.loop-item.out.items c.put_clear_item.new.out.items c.loop-item-test.true c.item-item.is c.loop-item.invariant c.in_ok-put_clear_item.ensures
