-- A desk over a folder in memory may be sent to another thread: service_hub has the lemmas on all that a desk is made of.
pub mod KrMemoryDisk
use denote.RattleType.{RattleType}
use denote.Param.Send.{IsSend}
use Rattle.kr_memory_disk.specs.contracts.folder.MemoryFolder as MemoryFolder
use Rattle.kr_memory_disk.specs.contracts.folder.MemoryFolderFolder.TheImpl.{ghosts as folder-ghosts}
use Rattle.kr_memory_disk.specs.contracts.slot.MemorySlot as MemorySlot
use Rattle.kr_memory_disk.specs.contracts.slot.MemorySlotSlot.TheImpl.{ghosts as slot-ghosts}
use Rattle.shared_service.specs.contracts.desk.SharedDesk as SharedDesk
use Rattle.tests_threads.proofs.Sends.KrMemoryDisk.{MemoryFolder-send, MemorySlot-send}
use Rattle.service_hub.proofs.Sends.SharedService.{SharedDesk-send}

-- a desk over a folder in memory
pub desk-send : (R : RattleType) → IsSend R → IsSend (SharedDesk.the_row R MemoryFolder.the_row MemorySlot.the_row folder-ghosts slot-ghosts)
desk-send R of-runtime = SharedDesk-send MemoryFolder.the_row MemorySlot.the_row folder-ghosts slot-ghosts R of-runtime MemoryFolder-send MemorySlot-send
