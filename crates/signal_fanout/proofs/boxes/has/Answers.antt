use Rattle.std.proofs.Common.{◌∙◌}
use Rattle.signal_fanout.proofs.BoxLemmas.{kept-has}
use Rattle.signal_fanout.proofs.boxes.has.Goals as goal

pub returns : goal.returns
returns c = c.contains_key.ensures ∙ kept-has c.args.conn c.args.boxes.now.entries
