-- What of collection_table may be sent to another thread.
use denote.RattleType.{RattleType}
use denote.Param.Send.{IsSend, sendable}
use Rattle.std.proofs.Crossing as heap
use Rattle.kr_outside.specs.declared.slot.Slot as slot
use Rattle.shared_service.specs.collection_table.specs.contracts.table.CollectionTable as CollectionTable
use Rattle.service_hub.proofs.Sends.CollectionStore.{Collection-send}
use Rattle.service_hub.proofs.Sends.KrBase.{Stem-send}

pub CollectionTable-send : (S : RattleType) (s : slot.Ghosts S.Denot) → IsSend S → IsSend (CollectionTable.the_row S s)
CollectionTable-send S s of-slot = search (Collection-send, Stem-send, sendable, heap.crosses) depth 40
