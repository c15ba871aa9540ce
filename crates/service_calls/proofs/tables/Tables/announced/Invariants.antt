use Rattle.std.proofs.Common.{◌≡◌, ◌++◌, length}
use Rattle.service_events.specs.service_prompts.specs.Announcing.{announced}
use Rattle.service_events.specs.service_tables.specs.Connections.{spread}
use Rattle.service_calls.proofs.tables.Tables.announced.Given as goal

-- the deliveries so far, and those of the signals that are left
abbrev pub invariant-loop-signal : goal.invariant-loop-signal
invariant-loop-signal g l =
    (goal.iterator-loop-signal g).can_next l.signal-iterator ×
    (goal.iterator-loop-signal g).is_finite l.signal-iterator ×
    (length l.signal-iterator.rest.items ≡ l.signal-iterator.rest.len) ×
    (l.sends.items ++ spread l.fn.self.connections.rows (announced l.signal-iterator.rest.items) ≡ spread l.fn.self.connections.rows (announced l.fn.signals.items))
