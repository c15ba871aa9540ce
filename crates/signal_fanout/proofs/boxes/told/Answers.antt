use Rattle.std.proofs.Common.{◌∙◌, sym, ap, Some}
use Rattle.std.specs.Option.{option_map}
use Rattle.signal_fanout.specs.Outboxes.{told_of}
use Rattle.signal_fanout.specs.Boxes.{row_of}
use Rattle.signal_fanout.proofs.BoxLemmas.{find-row}
use Rattle.signal_fanout.proofs.boxes.told.Goals as goal

pub returns-in-Some : goal.returns-in-Some
returns-in-Some c =
    ap Some (c.told.ensures c.args.conn)
    ∙ ap (λ found. option_map told_of (option_map (λ outbox. row_of (c.args.conn, outbox)) found)) c.in-Some.ensures.value
    ∙ sym (ap (option_map told_of) (find-row c.args.conn c.args.boxes.now.entries))

pub returns-in-None : goal.returns-in-None
returns-in-None c =
    ap (λ found. option_map told_of (option_map (λ outbox. row_of (c.args.conn, outbox)) found)) c.in-None.ensures.value
    ∙ sym (ap (option_map told_of) (find-row c.args.conn c.args.boxes.now.entries))
