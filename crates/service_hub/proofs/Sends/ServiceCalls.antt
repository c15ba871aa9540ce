-- What of service_calls may be sent to another thread.
use denote.RattleType.{RattleType}
use denote.Param.Send.{IsSend, sendable}
use Rattle.std.proofs.Crossing as heap
use Rattle.kr_outside.specs.declared.slot.Slot as slot
use Rattle.shared_service.specs.service_calls.specs.contracts.tables.Tables as Tables
use Rattle.service_hub.proofs.Sends.PromptState.{PromptState-send}
use Rattle.service_hub.proofs.Sends.ServiceTables.{Connections-send, Disk-send}
use Rattle.service_hub.proofs.Sends.SessionTable.{SessionTable-send}

pub Tables-send : (F S : RattleType) (s : slot.Ghosts S.Denot) → IsSend F → IsSend S → IsSend (Tables.the_field F S s).row
Tables-send F S s of-folder of-slot = search (Disk-send, Connections-send, SessionTable-send, PromptState-send, sendable, heap.crosses) depth 40
