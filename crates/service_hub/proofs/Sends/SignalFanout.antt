-- What of signal_fanout may be sent to another thread.
use denote.Param.Send.{IsSend, sendable}
use Rattle.std.proofs.Crossing as heap
use Rattle.std.proofs.MapsCrossing as maps
use Rattle.shared_service.specs.service_tables.specs.signal_fanout.specs.contracts.outbox.Outbox as Outbox
use Rattle.shared_service.specs.service_tables.specs.signal_fanout.specs.contracts.outboxes.Outboxes as Outboxes
use Rattle.service_hub.proofs.Sends.SecretCalls.{Out-send}

Outbox-send : IsSend Outbox.the_row
Outbox-send = search (Out-send, sendable, heap.crosses) depth 40

pub Outboxes-send : IsSend Outboxes.the_row
Outboxes-send = search (Outbox-send, sendable, heap.crosses, maps.crosses) depth 40 fits 20000
