use Rattle.std.proofs.lemmas.List.Elements.{All-from_recursion}
use Rattle.keyring_file.specs.Canonical.{item_text}
use Rattle.keyring_file.proofs.Writing.{one_more}
use Rattle.keyring_file.specs.Short.{IsShortItem}
use Rattle.keyring_file.proofs.area_writing.put_items.Goals as goal

pub put_item-requires : goal.put_item-requires
put_item-requires c = rw c.item-item.is (All-from_recursion IsShortItem c.args.items.now c.requires c.loop-item.item-index _ c.loop-item-test.true)

pub loop-item-preserved : goal.loop-item-preserved
loop-item-preserved c =
    one_more item_text c.args.items.now c.loop-item.item-index c.item-item.result c.args.out.now.items c.loop-item.out.items c.put_item.new.out.items c.loop-item-test.true c.item-item.is c.loop-item.invariant c.in_ok-put_item.ensures
