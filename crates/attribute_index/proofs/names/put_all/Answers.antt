use Rattle.attribute_index.proofs.PairLemmas.{back}
use Rattle.attribute_index.proofs.names.put_all.Goals as goal

pub returns-in-Err-clause-unchanged : goal.returns-in-Err-clause-unchanged
returns-in-Err-clause-unchanged c = back c.args.id.0 c.in-Err.ensures.some.0 c.args.pairs.now c.args.but.now c.args.names.now c.put_first.new.names c.take_all.new.names c.requires.rising c.requires.there c.in-Err.ensures.some.1 c.take_all.ensures.taken
