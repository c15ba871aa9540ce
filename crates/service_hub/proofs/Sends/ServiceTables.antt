-- What of service_tables may be sent to another thread.
use denote.RattleType.{RattleType}
use denote.Param.Send.{IsSend, sendable}
use Rattle.std.proofs.Crossing as heap
use Rattle.kr_outside.specs.declared.slot.Slot as slot
use Rattle.shared_service.specs.service_tables.specs.contracts.aliases.KeptAliases as KeptAliases
use Rattle.shared_service.specs.service_tables.specs.contracts.connections.Connections as Connections
use Rattle.shared_service.specs.service_tables.specs.contracts.disk.Disk as Disk
use Rattle.shared_service.specs.service_tables.specs.contracts.fate.ReadFate as ReadFate
use Rattle.shared_service.specs.service_tables.specs.contracts.fate.StoreFate as StoreFate
use Rattle.shared_service.specs.service_tables.specs.contracts.kept.KeptSlot as KeptSlot
use Rattle.service_hub.proofs.Sends.CollectionTable.{CollectionTable-send}
use Rattle.service_hub.proofs.Sends.AliasTable.{AliasTable-send}
use Rattle.service_hub.proofs.Sends.FolderStore.{LeftAlone-send}
use Rattle.service_hub.proofs.Sends.KrBase.{Stem-send}
use Rattle.service_hub.proofs.Sends.ReplaceSlot.{FileCell-send}
use Rattle.service_hub.proofs.Sends.SignalFanout.{Outboxes-send}
use Rattle.service_hub.proofs.Sends.StemChoice.{UsedStems-send}

pub ReadFate-send : IsSend ReadFate.the_row
ReadFate-send = search sendable depth 40

pub StoreFate-send : IsSend StoreFate.the_row
StoreFate-send = search sendable depth 40

pub Connections-send : IsSend Connections.the_row
Connections-send = search (Outboxes-send, sendable) depth 40

module _ (S : RattleType) (s : slot.Ghosts S.Denot) where
  KeptAliases-send : IsSend S → IsSend (KeptAliases.the_field S s).row
  KeptAliases-send of-slot = search (AliasTable-send, FileCell-send, sendable) depth 40

  KeptSlot-send : IsSend S → IsSend (KeptSlot.the_row S s)
  KeptSlot-send of-slot = search sendable depth 40

pub Disk-send : (F S : RattleType) (s : slot.Ghosts S.Denot) → IsSend F → IsSend S → IsSend (Disk.the_field F S s).row
Disk-send F S s of-folder of-slot = search (CollectionTable-send, LeftAlone-send, KeptAliases-send, KeptSlot-send, Stem-send, UsedStems-send, sendable, heap.crosses) depth 40 fits 20000
