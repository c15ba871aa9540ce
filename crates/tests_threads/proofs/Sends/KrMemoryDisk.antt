-- What of kr_memory_disk may be sent to another thread.
use denote.Param.Send.{IsSend, sendable}
use Rattle.std.proofs.Crossing as heap
use Rattle.kr_memory_disk.specs.contracts.folder.MemoryFolder as MemoryFolder
use Rattle.kr_memory_disk.specs.contracts.slot.MemorySlot as MemorySlot
use Rattle.service_hub.proofs.Sends.KrBase.{Bytes-send, Text-send}

pub MemoryFolder-send : IsSend MemoryFolder.the_row
MemoryFolder-send = search (Text-send, Bytes-send, sendable, heap.crosses) depth 40 fits 20000

pub MemorySlot-send : IsSend MemorySlot.the_row
MemorySlot-send = search (Bytes-send, sendable, heap.crosses) depth 40 fits 20000
