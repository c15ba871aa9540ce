-- What of service_machine may be sent to another thread.
use denote.RattleType.{RattleType}
use denote.Param.Send.{IsSend, sendable}
use Rattle.kr_outside.specs.declared.slot.Slot as slot
use Rattle.shared_service.specs.service_machine.specs.contracts.machine.Machine as Machine
use Rattle.service_hub.proofs.Sends.ServiceCalls.{Tables-send}

pub Machine-send : (F S : RattleType) (s : slot.Ghosts S.Denot) → IsSend F → IsSend S → IsSend (Machine.the_field F S s).row
Machine-send F S s of-folder of-slot = search (Tables-send, sendable) depth 40
