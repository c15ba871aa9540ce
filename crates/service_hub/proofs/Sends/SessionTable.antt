-- What of session_table may be sent to another thread.
use denote.Param.Send.{IsSend, sendable}
use Rattle.std.proofs.Crossing as heap
use Rattle.std.proofs.MapsCrossing as maps
use Rattle.session_table.specs.contracts.table.SessionTable as SessionTable

pub SessionTable-send : IsSend SessionTable.the_row
SessionTable-send = search (sendable, heap.crosses, maps.crosses) depth 40 fits 20000
