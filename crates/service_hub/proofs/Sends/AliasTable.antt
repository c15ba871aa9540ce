-- What of alias_table may be sent to another thread.
use denote.RattleType.{RattleType}
use denote.Param.Send.{IsSend, sendable}
use Rattle.std.proofs.Crossing as heap
use Rattle.kr_outside.specs.declared.slot.Slot as slot
use Rattle.shared_service.specs.alias_table.specs.contracts.table.AliasTable as AliasTable
use Rattle.service_hub.proofs.Sends.KrBase.{Stem-send, Text-send}
use Rattle.service_hub.proofs.Sends.ReplaceSlot.{FileCell-send}

pub AliasTable-send : (S : RattleType) (s : slot.Ghosts S.Denot) → IsSend S → IsSend (AliasTable.the_row S s)
AliasTable-send S s of-slot = search (FileCell-send, Text-send, Stem-send, sendable, heap.crosses) depth 40
