-- What of service_events may be sent to another thread.
use denote.RattleType.{RattleType}
use denote.Param.Send.{IsSend, sendable}
use Rattle.std.proofs.Crossing as heap
use Rattle.shared_service.specs.service_events.specs.contracts.boxed.Boxed as Boxed
use Rattle.shared_service.specs.service_events.specs.contracts.event.Arrival as Arrival
use Rattle.shared_service.specs.service_events.specs.contracts.event.Derivation as Derivation
use Rattle.shared_service.specs.service_events.specs.contracts.event.Event as Event
use Rattle.shared_service.specs.service_events.specs.contracts.event.Recorded as Recorded
use Rattle.shared_service.specs.service_events.specs.contracts.fates.Fates as Fates
use Rattle.service_hub.proofs.Sends.KrBase.{Bytes-send}
use Rattle.service_hub.proofs.Sends.SecretCalls.{Request-send}
use Rattle.service_hub.proofs.Sends.ServiceTables.{ReadFate-send, StoreFate-send}

Boxed-send : (T : RattleType) → IsSend T → IsSend (Boxed.the_row T)
Boxed-send T of-value = search (sendable, heap.crosses) depth 30

Fates-send : IsSend (Fates.the_field).row
Fates-send = search (ReadFate-send, StoreFate-send, sendable) depth 40

Arrival-send : IsSend (Arrival.the_field).row
Arrival-send = search (Request-send, sendable) depth 40

Recorded-send : IsSend (Recorded.the_field).row
Recorded-send = search (Arrival-send, Fates-send, sendable) depth 40

Derivation-send : IsSend (Derivation.the_field).row
Derivation-send = search (Bytes-send, Fates-send, sendable) depth 40 fits 20000

pub Event-send : IsSend Event.the_row
Event-send = search (Boxed-send, Recorded-send, Derivation-send, sendable) depth 40
