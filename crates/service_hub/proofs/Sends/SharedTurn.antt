-- What of shared_turn may be sent to another thread, or lent to one.
use denote.RattleType.{RattleType}
use denote.Param.Send.{IsSend, IsSync, sendable}
use Rattle.std.proofs.Crossing as heap
use Rattle.atomic_table.proofs.shared.Seat.TheSendSync.{the_send as seat-send}
use Rattle.atomic_table.proofs.shared.Shared.TheSendSync.{the_send as shared-send, the_sync as shared-sync}
use Rattle.atomic_table.proofs.send_lease.SendLease.TheSendSync.{the_send as lease-send, the_sync as lease-sync}
use Rattle.shared_service.specs.shared_turn.specs.declared.chronicle.Chronicle as chronicle
use Rattle.shared_service.specs.shared_turn.specs.contracts.pass.Pass as Pass
use Rattle.shared_service.specs.shared_turn.specs.contracts.turn.Turn as Turn

module _ (C B E : RattleType) (c : chronicle.Ghosts C.Denot B.Denot E.Denot) where
  pub Pass-send : IsSend C → IsSend (Pass.the_row C B E c)
  Pass-send of-value = search (seat-send, sendable, heap.crosses) depth 40

  pub Turn-send : IsSend C → IsSend (Turn.the_row C B E c)
  Turn-send of-value = search (lease-send, shared-send, sendable, heap.crosses) depth 40 fits 20000

  pub Turn-sync : IsSend C → IsSync (Turn.the_row C B E c)
  Turn-sync of-value = search (lease-sync, shared-sync, sendable, heap.crosses) depth 40 fits 20000
