-- What of shared_service may be sent to another thread, or lent to one.
use denote.RattleType.{RattleType}
use denote.Param.Send.{IsSend, IsSync, sendable}
use Rattle.std.proofs.Crossing as heap
use Rattle.kr_outside.specs.declared.folder.Folder as folder
use Rattle.kr_outside.specs.declared.slot.Slot as slot
use Rattle.shared_service.specs.contracts.desk.SharedDesk as SharedDesk
use Rattle.shared_service.specs.contracts.kept.Kept as Kept
use Rattle.shared_service.specs.contracts.pass.Pass as Pass
use Rattle.shared_service.specs.contracts.shared.SharedService as SharedService
use Rattle.shared_service.specs.contracts.sleepers.Sleepers as Sleepers
use Rattle.service_hub.proofs.Sends.ServiceHistory.{Service-send}
use Rattle.service_hub.proofs.Sends.SharedTurn.{Pass-send as TurnPass-send, Turn-send, Turn-sync}

Sleepers-send : IsSend Sleepers.the_row
Sleepers-send = search (sendable, heap.crosses) depth 40

module _ (F S : RattleType) (f : folder.Ghosts F.Denot S.Denot) (s : slot.Ghosts S.Denot) where
  Kept-send : IsSend F → IsSend S → IsSend (Kept.the_row F S f s)
  Kept-send of-folder of-slot = search (Service-send, Sleepers-send, sendable, heap.crosses) depth 40

  pub Pass-send : IsSend F → IsSend S → IsSend (Pass.the_row F S f s)
  Pass-send of-folder of-slot = search (TurnPass-send, Kept-send, sendable) depth 40 fits 20000

  pub SharedService-send : IsSend F → IsSend S → IsSend (SharedService.the_row F S f s)
  SharedService-send of-folder of-slot = search (Turn-send, Kept-send, sendable, heap.crosses) depth 40 fits 20000

  pub SharedService-sync : IsSend F → IsSend S → IsSync (SharedService.the_row F S f s)
  SharedService-sync of-folder of-slot = search (Turn-sync, Kept-send, sendable, heap.crosses) depth 40 fits 20000

  pub SharedDesk-send : (R : RattleType) → IsSend R → IsSend F → IsSend S → IsSend (SharedDesk.the_row R F S f s)
  SharedDesk-send R of-runtime of-folder of-slot = search (SharedService-send, SharedService-sync, Pass-send, sendable, heap.crosses) depth 40
