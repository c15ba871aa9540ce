use Rattle.std.proofs.Common.{Result, Ok, Some, IsOk, sym, subst, rules}
use Rattle.kr_outside.specs.Moments.{Elapses}
use Rattle.kr_outside.specs.declared.slot.Seen.{Seen}
use Rattle.kr_outside.specs.declared.source.Failed as refused
use Rattle.kr_memory_disk.specs.declared.slot.SlotCall.TheVariants.{Read}
use Rattle.kr_memory_disk.specs.Slot.{slot_moment, slot_left_since, slot_may_leave}
use Rattle.kr_memory_disk.proofs.SlotLemmas.{noted_time, answered_time}
use Rattle.kr_memory_disk.proofs.slot.MemorySlotSlot.read.Goals as goal

-- the call is recorded, and then its result is kept
pub returns-clause-call : goal.returns-clause-call
returns-clause-call c =
    let answer : Result Seen refused.Failed = Ok c.match-image.seen in
    let noted : IsOk c.note.result = search rules in
    let time = answered_time c.args.self.now _ (Some c.match-image.seen) answer
    (subst (λ s. Elapses slot_moment slot_left_since slot_may_leave c.args.self.now s answer) (sym c.self.view_is)
    (noted_time c.args.self.now Read c.note.new.self c.note.result answer c.note.ensures.noted (λ ok. noted))) in
    search rules
