use Rattle.std.proofs.Common.{◌≡◌}
use Rattle.shared_turn.proofs.turn.Turn.enter.Given as goal

-- the seat has its ticket, and waits
abbrev pub invariant-loop : goal.invariant-loop
invariant-loop g l =
    (goal.iterator-loop g).can_next l.iterator' × (goal.iterator-loop g).is_finite l.iterator' × (l.pass-inside.place.table_id ≡ l.initial.pass-inside.place.table_id) × (l.pass-inside.place.id ≡ l.initial.pass-inside.place.id)
    × (l.pass-inside.place.me ≡ l.initial.pass-inside.place.me)
