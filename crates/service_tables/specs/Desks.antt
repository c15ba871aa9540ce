-- How the connections are kept: their outboxes, and the number that the next one gets.
use Rattle.std.specs.Prelude.{ℕ, List}
use Rattle.signal_fanout.specs.declared.rows.ConnRow.{ConnRow}
use Rattle.signal_fanout.specs.Outboxes.{Rooms, Waiting}

-- the table as contracts see it: the rows, the number of the next connection, and for how many more outputs of each connection there is
-- room
pub record Table : Type 0 where
  pub rows : List ConnRow
  pub next : ℕ
  pub rooms : Rooms

-- the table of these outboxes
abbrev pub table_of : Waiting → ℕ → Table
table_of waiting next = record { rows = waiting.rows; next = next; rooms = waiting.rooms }
