-- The connections of the service: their rows (specs/Outboxes.antt of signal_fanout), and the number that the next one gets.
use Rattle.std.specs.Prelude.{◌+◌, [], ◌∷◌, ◌++◌}
use Rattle.kr_base.specs.declared.ids.ConnId.{ConnId}
use Rattle.service_tables.specs.declared.rows.ConnRows.{ConnRows}
use Rattle.signal_fanout.specs.Outboxes.{new_row}
-- what is said of the connections' rows, of deliveries, and of the room for outputs
unfoldable pub use Rattle.signal_fanout.specs.Outboxes.{size_of}
pub use Rattle.signal_fanout.specs.Outboxes.{new_row, is_row, has, AreBelow, changed, without, size_waiting, with_out, left, emptied, waits, told_of, desk_of, is_overrun, waiting_for}
pub use Rattle.signal_fanout.specs.Outboxes.{given_out, delivered, sent_to, AreDistinct, for_each, deliveries_of, spread, handed, outs_to}
pub use Rattle.signal_fanout.specs.Outboxes.{Rooms, HasRoom, KeepRooms, with_one, Spends, count_to, HasRoomFor}

-- the connections with one more
abbrev pub joined : ConnId → ConnRows → ConnRows
joined conn connections = record { rows = connections.rows ++ new_row conn ∷ []; next = connections.next + 1 }
