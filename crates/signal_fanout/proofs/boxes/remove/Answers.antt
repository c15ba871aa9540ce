use Rattle.std.proofs.Common.{◌∙◌, ap, map}
use Rattle.signal_fanout.specs.Boxes.{row_of}
use Rattle.signal_fanout.proofs.BoxLemmas.{remove_entry-row, remove_entry-all}
use Rattle.signal_fanout.proofs.boxes.remove.Goals as goal

pub returns-clause-rows : goal.returns-clause-rows
returns-clause-rows c = ap (map row_of) c.remove.ensures.entries ∙ remove_entry-row c.args.conn c.args.boxes.now.entries c.requires

pub returns-clause-counts : goal.returns-clause-counts
returns-clause-counts c = λ counts. rw c.remove.ensures.entries (remove_entry-all _ _ c.args.boxes.now.entries counts)
