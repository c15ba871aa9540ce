use Rattle.std.proofs.lemmas.List.Elements.{All-from_recursion}
use Rattle.keyring_file.specs.Canonical.{pair_text}
use Rattle.keyring_file.proofs.Writing.{one_more}
use Rattle.keyring_file.specs.Short.{IsShortPair}
use Rattle.keyring_file.proofs.clear_writing.put_pairs.Goals as goal

pub put_pair-requires : goal.put_pair-requires
put_pair-requires c = rw c.pair-item.is (All-from_recursion IsShortPair c.args.pairs.now c.requires c.loop-pair.pair-index _ c.loop-pair-test.true)

pub loop-pair-preserved : goal.loop-pair-preserved
loop-pair-preserved c =
    one_more pair_text c.args.pairs.now c.loop-pair.pair-index c.pair-item.result c.args.out.now.items c.loop-pair.out.items c.put_pair.new.out.items c.loop-pair-test.true c.pair-item.is c.loop-pair.invariant c.in_ok-put_pair.ensures
