use Rattle.std.proofs.Common.{◌⊎◌}
use Rattle.kr_outside.specs.RenameDisk.{LeavesAnyBytes, Only}
use Rattle.kr_memory_disk.specs.declared.slot.SlotCall.TheVariants.{SyncFolder}
use Rattle.kr_memory_disk.specs.Slot.{DiskLeaves, disk_of, image_stood}
use Rattle.kr_memory_disk.proofs.SlotLemmas.{noted_ok, settles_SyncFolder}
use Rattle.kr_memory_disk.proofs.slot.MemorySlotSlot.sync_folder.Goals as goal

-- the name counts as having stood for what it stands for, and for nothing else
pub returns-clause-settled : goal.returns-clause-settled
returns-clause-settled c =
    let old = disk_of c.args.self.now in
    noted_ok (λ disk. LeavesAnyBytes (DiskLeaves old) ⊎ Only (image_stood old.name) (DiskLeaves disk)) c.args.self.now SyncFolder c.note.new.self c.note.result c.note.ensures.noted
    (settles_SyncFolder old)
