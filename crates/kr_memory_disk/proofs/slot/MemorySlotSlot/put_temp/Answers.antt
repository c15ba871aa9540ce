use Rattle.std.proofs.Common.{rules}
use Rattle.kr_memory_disk.specs.declared.slot.SlotCall.TheVariants.{PutTemp}
use Rattle.kr_memory_disk.specs.Slot.{unrecorded}
use Rattle.kr_memory_disk.proofs.SlotLemmas.{noted_time, failed_time}
use Rattle.kr_memory_disk.proofs.slot.MemorySlotSlot.put_temp.Goals as goal

-- the call is recorded
pub returns-in-Ok-clause-call : goal.returns-in-Ok-clause-call
returns-in-Ok-clause-call c =
    let time = noted_time c.args.self.now _ c.note.new.self c.note.result c.note.result c.note.ensures.noted (λ ok. ok) in
    search rules

-- there was no memory for the bytes
pub returns-in-Err-clause-call : goal.returns-in-Err-clause-call
returns-in-Err-clause-call c = record {
  kept = search rules;
  time = λ _. failed_time c.args.self.now (PutTemp c.args.bytes.now) c.fail.new.self _ (unrecorded tt c.fail.ensures.counted) (λ ok. cc);
  last = search rules;
}
