-- The events for which room is kept, so that they never need memory: for each connection, that it leaves, if it hasn't;
-- that it takes, if something waits; and that it is gone.
use Rattle.std.specs.Prelude.{ℕ, ◌+◌, if◌then◌else◌, List, [], ◌∷◌}
use Rattle.service_machine.specs.service_tables.specs.signal_fanout.specs.declared.rows.ConnRow.{ConnRow}
use Rattle.service_machine.specs.service_tables.specs.Connections.{waits}

-- how many such events a connection may bring
abbrev pub room_of : ConnRow → ℕ
room_of row = 1 + (if row.leaving then 0 else 1) + (if waits row then 1 else 0)

-- how many all connections may bring
abbrev pub room : List ConnRow → ℕ
room [] = 0
room (row ∷ rows) = room_of row + room rows

-- room for an event, and for all that 256 connections may bring after it
abbrev pub enough : ℕ
enough = 769
