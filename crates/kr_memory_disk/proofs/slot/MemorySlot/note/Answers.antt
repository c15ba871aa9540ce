use Rattle.std.proofs.Common.{rules}
use Rattle.kr_memory_disk.proofs.SlotLemmas.{noted_failure}
use Rattle.kr_memory_disk.proofs.slot.MemorySlot.note.Goals as goal

-- the record has the end that was planned, which isn't Done
pub returns-in-Failed-clause-noted : goal.returns-in-Failed-clause-noted
returns-in-Failed-clause-noted c = noted_failure _ _ _ c.end-end.result c.end-end.ensures c.in-Failed.is (rw (← c.self.view_is) (search rules))
