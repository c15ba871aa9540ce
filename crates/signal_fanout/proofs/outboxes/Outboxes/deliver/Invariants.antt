use Rattle.std.proofs.Common.{◌≡◌, length}
use Rattle.signal_fanout.specs.Outboxes.{HasRoomFor, handed}
use Rattle.signal_fanout.proofs.outboxes.Outboxes.deliver.Given as goal

-- there is room for the outputs that are left, and what they lead to is what all lead to
abbrev pub invariant-loop-sent : goal.invariant-loop-sent
invariant-loop-sent l =
    goal.iterator-loop-sent.can_next l.sent-iterator ×
    goal.iterator-loop-sent.is_finite l.sent-iterator ×
    (length l.sent-iterator.rest.items ≡ l.sent-iterator.rest.len) ×
    HasRoomFor l.sent-iterator.rest.items l.self.rooms ×
    (handed l.sent-iterator.rest.items l.self.rows ≡ handed l.fn.outs.items l.fn.self.rows)
