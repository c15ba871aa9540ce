use Rattle.kr_outside.specs.RenameDisk.{LeavesAlso, LeavesTemporary}
use Rattle.kr_memory_disk.specs.declared.slot.SlotCall.TheVariants.{Rename}
use Rattle.kr_memory_disk.specs.Slot.{DiskLeaves, disk_of}
use Rattle.std.proofs.Common.{inl}
use Rattle.kr_memory_disk.proofs.SlotLemmas.{noted_disk, leaves_Rename}
use Rattle.kr_memory_disk.proofs.slot.MemorySlotSlot.rename.Goals as goal

-- a crash leaves what it left before or the temporary file, however the call ends
pub returns-clause-crash : goal.returns-clause-crash
returns-clause-crash c =
    let old = disk_of c.args.self.now in
    noted_disk (λ disk. LeavesAlso (DiskLeaves old) (LeavesTemporary old.temporary) (DiskLeaves disk)) c.args.self.now Rename c.note.new.self c.note.result c.note.ensures.noted
    (λ left leaves. inl leaves) (λ end. leaves_Rename end old)
