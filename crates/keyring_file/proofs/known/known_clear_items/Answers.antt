use Rattle.keyring_file.specs.Known.{IsKnownClearItem}
use Rattle.keyring_file.proofs.KnownLemmas.{all_more, all_of_taken}
use Rattle.keyring_file.proofs.known.known_clear_items.Goals as goal

pub loop-item-preserved : goal.loop-item-preserved
loop-item-preserved c = all_more IsKnownClearItem c.args.items.now c.loop-item.item-index c.item-item.result c.loop-item-test.true c.item-item.is c.loop-item.invariant c.known_clear_item.ensures

pub returns : goal.returns
returns c = all_of_taken IsKnownClearItem c.args.items.now c.loop-item.item-index c.loop-item-test.false c.loop-item.invariant
