use Rattle.keyring_file.proofs.NumberLemmas.{gathered-more}
use Rattle.keyring_file.proofs.numbers.set_of.Goals as goal

pub loop-item-preserved : goal.loop-item-preserved
loop-item-preserved c = gathered-more c.args.items.now c.loop-item.item-index c.item-item.result c.loop-item.ids.keys c.insert.new.self.keys c.loop-item-test.true c.item-item.is c.loop-item.invariant c.in_ok-insert.ensures.keys
