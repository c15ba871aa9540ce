use Rattle.signal_fanout.proofs.SpreadLemmas.{distinct-rows}
use Rattle.signal_fanout.proofs.boxes.are_distinct.Goals as goal

pub returns : goal.returns
returns c = distinct-rows c.args.boxes.now.entries c.requires
