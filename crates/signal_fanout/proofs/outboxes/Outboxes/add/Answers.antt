use Rattle.std.proofs.Common.{◌≡◌, ℕ, ◌∷◌, ◌++◌, [], ◌∙◌, ap, map}
use Rattle.std.proofs.lemmas.List.{map-append}
use Rattle.signal_fanout.specs.declared.outbox.Outbox.{Outbox}
use Rattle.signal_fanout.specs.Boxes.{row_of}
use Rattle.signal_fanout.proofs.BoxLemmas.{given-rows, OnOk-more}
use Rattle.signal_fanout.proofs.outboxes.Outboxes.add.Goals as goal

-- the new number is above all
pub add-requires : goal.add-requires
add-requires c = given-rows c.args.conn.0 c.self.inside.boxes.entries (rw (← c.self.view_is) at c.requires.above)

pub invariant_of-self : goal.invariant_of-self
invariant_of-self c = record {
  ordered = c.add.ensures.ordered;
  counts = c.add.ensures.counts c.self.invariant.counts c.new.ensures.counts;
}

pub returns-clause-added : goal.returns-clause-added
returns-clause-added c =
    let entries = c.self.inside.boxes.entries in
    let one : ℕ × Outbox = (c.args.conn.0, c.new.result) in
    OnOk-more c.add.result (c.add.new.boxes.entries ≡ entries ++ one ∷ []) _
    (λ added. rw (← c.self.view_is) (ap (map row_of) added ∙ map-append row_of entries (one ∷ []) ∙ ap (λ row. map row_of entries ++ row ∷ []) (c.new.ensures.row c.args.conn.0)))
    c.add.ensures.added
