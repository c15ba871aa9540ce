use Rattle.std.proofs.Common.{◌∙◌, ◌∷◌, []}
use Rattle.signal_fanout.specs.Boxes.{IsCounted}
use Rattle.signal_fanout.proofs.BoxLemmas.{insert_entry-behind}
use Rattle.signal_fanout.proofs.EachLemmas.{each-append}
use Rattle.signal_fanout.proofs.boxes.add.Goals as goal

-- a number above all comes after all
pub returns-in-Ok-clause-added : goal.returns-in-Ok-clause-added
returns-in-Ok-clause-added c = c.in-Ok.ensures.entries ∙ insert_entry-behind c.args.conn c.args.outbox c.args.boxes.now.entries c.requires

pub returns-in-Ok-clause-counts : goal.returns-in-Ok-clause-counts
returns-in-Ok-clause-counts c = λ all one.
    rw (c.in-Ok.ensures.entries ∙ insert_entry-behind c.args.conn c.args.outbox c.args.boxes.now.entries c.requires)
    (each-append (λ entry. IsCounted entry.1) c.args.boxes.now.entries ((c.args.conn, c.args.outbox) ∷ []) all (one, tt))
