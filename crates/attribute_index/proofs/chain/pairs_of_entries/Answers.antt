use Rattle.attribute_index.proofs.MakingLemmas.{made-none}
use Rattle.attribute_index.proofs.chain.pairs_of_entries.Goals as goal

pub returns-in-None : goal.returns-in-None
returns-in-None c = made-none c.args.entries.now c.in-None.ensures.cases c.new.result c.new.ensures
