-- What of service_history may be sent to another thread.
use denote.RattleType.{RattleType}
use denote.Param.Send.{IsSend, sendable}
use Rattle.std.proofs.Crossing as heap
use Rattle.kr_outside.specs.declared.folder.Folder as folder
use Rattle.kr_outside.specs.declared.slot.Slot as slot
use Rattle.shared_service.specs.service_history.specs.contracts.service.Service as Service
use Rattle.shared_service.specs.service_history.specs.contracts.window.Window as Window
use Rattle.service_hub.proofs.Sends.ServiceEvents.{Event-send}
use Rattle.service_hub.proofs.Sends.ServiceMachine.{Machine-send}

module _ (F S : RattleType) (f : folder.Ghosts F.Denot S.Denot) (s : slot.Ghosts S.Denot) where
  Window-send : IsSend (Window.the_row F S f s)
  Window-send = search (Event-send, sendable, heap.crosses) depth 40 fits 20000

  pub Service-send : IsSend F → IsSend S → IsSend (Service.the_row F S f s)
  Service-send of-folder of-slot = search (Machine-send, Window-send, sendable) depth 40
