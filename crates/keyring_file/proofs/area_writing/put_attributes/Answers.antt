use Rattle.std.proofs.lemmas.List.Elements.{All-from_recursion}
use Rattle.keyring_file.specs.Canonical.{attribute_text}
use Rattle.keyring_file.proofs.Writing.{one_more}
use Rattle.keyring_file.specs.Short.{IsShortAttribute}
use Rattle.keyring_file.proofs.area_writing.put_attributes.Goals as goal

pub put_attribute-requires : goal.put_attribute-requires
put_attribute-requires c = rw c.pair-item.is (All-from_recursion IsShortAttribute c.args.pairs.now c.requires c.loop-pair.pair-index _ c.loop-pair-test.true)

pub loop-pair-preserved : goal.loop-pair-preserved
loop-pair-preserved c =
    one_more attribute_text c.args.pairs.now c.loop-pair.pair-index c.pair-item.result c.args.out.now.items c.loop-pair.out.items c.put_attribute.new.out.items c.loop-pair-test.true c.pair-item.is c.loop-pair.invariant c.in_ok-put_attribute.ensures
