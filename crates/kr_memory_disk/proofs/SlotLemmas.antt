-- What a call of a slot in memory does to its disk, and its moments.
use Rattle.std.proofs.Common.{◌≡◌, ◌⊎◌, ⊎_elim, inl, inr, ℕ, ◌+◌, ◌≤◌, List, [], ◌∷◌, ◌++◌, length, take, Option, None, Result, Ok, Err, IsOk, OnOk, OnErr, refl, sym, ◌∙◌, ap, subst, arith, length-append}
use Rattle.std.proofs.lemmas.List.{take_all, take-append-le}
use Rattle.std.proofs.lemmas.Bool.{cases_lt}
use Rattle.std.proofs.lemmas.List.Sums.{fold-append}
use Rattle.kr_outside.specs.RenameDisk.{Image, Temporary, Unknown, Unsynced, Synced, GivesTemporary, LeavesTemporary, Only, LeavesAnyBytes, LeavesNoMore, LeavesAlso}
use Rattle.kr_outside.specs.Moments.{Elapses}
use Rattle.kr_outside.specs.declared.slot.Seen.{Seen}
use Rattle.kr_outside.specs.declared.source.Failed as refused
use Rattle.kr_memory_disk.specs.declared.slot.SlotCall.{SlotCall}
use Rattle.kr_memory_disk.specs.declared.slot.SlotCall.TheVariants.{PutTemp, SyncTemp, Rename, SyncFolder, Remove}
use Rattle.kr_memory_disk.specs.declared.slot.CallEnd.{CallEnd}
use Rattle.kr_memory_disk.specs.declared.slot.CallEnd.TheVariants.{Done, Failed, FailedDone}
use Rattle.kr_memory_disk.specs.declared.slot.CallRecord.{CallRecord}
use Rattle.kr_memory_disk.specs.Slot.{device_call, with_rest, Stood, Whole, Torn, image_stood, Disk, DiskLeaves, LeavesOneOf, takes_temporary, misses_temporary, disk_after, disk_at, disk_of, SlotState, slot_may_leave, slot_moment, slot_left_since, IsPlanned, with_call, with_fault, IsFailure, unrecorded, recorded, IsNoted}

-- a call that fails with a planned end is recorded with that end
pub noted_failure : (old : SlotState) (call : SlotCall) (new : SlotState) (end : CallEnd) → IsPlanned old end → (end ≡ Failed) ⊎ (end ≡ FailedDone)
    → new ≡ with_rest new.room new.answered (with_fault (device_call call) (with_call old call end)) → IsFailure old call new
noted_failure old call new end planned (inl is) same = recorded end planned (λ done. cc) same
noted_failure old call new end planned (inr is) same = recorded end planned (λ done. cc) same

-- one more call
disk_push : (image : Image) (calls : List CallRecord) (call : SlotCall) (end : CallEnd) → disk_at image (calls ++ (record { call = call; end = end }) ∷ []) ≡ disk_after call end (disk_at image calls)
disk_push image calls call end = fold-append _ _ calls _

-- what is true of the disk before a call, and after each end that the call may have, is true after it
pub failed_disk : (P : Disk → Type 0) (old : SlotState) (call : SlotCall) (new : SlotState) → IsFailure old call new
    → P (disk_of old) → ((end : CallEnd) → ¬ (end ≡ Done) → P (disk_after call end (disk_of old))) → P (disk_of new)
failed_disk P old call new (unrecorded takes is) none each = subst (λ s. P (disk_of s)) (sym is) none
failed_disk P old call new (recorded end planned not_done is) none each =
    subst (λ s. P (disk_of s)) (sym is) (subst P (sym (disk_push old.image old.calls call end)) (each end not_done))

pub noted_disk : {T : Type 0} (P : Disk → Type 0) (old : SlotState) (call : SlotCall) (new : SlotState) (result : Result T refused.Failed) → IsNoted old call new result
    → P (disk_of old) → ((end : CallEnd) → P (disk_after call end (disk_of old))) → P (disk_of new)
noted_disk P old call new (Ok none) noted before each = subst (λ s. P (disk_of s)) (sym noted.1) (subst P (sym (disk_push old.image old.calls call Done)) (each Done))
noted_disk P old call new (Err refused) noted before each = failed_disk P old call new noted before (λ end _. each end)

pub noted_ok : {T : Type 0} (P : Disk → Type 0) (old : SlotState) (call : SlotCall) (new : SlotState) (result : Result T refused.Failed) → IsNoted old call new result
    → P (disk_after call Done (disk_of old)) → OnOk result (P (disk_of new))
noted_ok P old call new (Ok none) noted done = subst (λ s. P (disk_of s)) (sym noted.1) (subst P (sym (disk_push old.image old.calls call Done)) done)
noted_ok P old call new (Err refused) noted done = tt

pub noted_err : {T : Type 0} (P : Disk → Type 0) (old : SlotState) (call : SlotCall) (new : SlotState) (result : Result T refused.Failed) → IsNoted old call new result
    → P (disk_of old) → ((end : CallEnd) → ¬ (end ≡ Done) → P (disk_after call end (disk_of old))) → OnErr result (P (disk_of new))
noted_err P old call new (Ok none) noted before each = tt
noted_err P old call new (Err refused) noted before each = failed_disk P old call new noted before each

-- the moments of a slot with the same calls
same_time : {T E : Type 0} (old new : SlotState) (result : Result T E) → (new.image ≡ old.image) × (new.calls ≡ old.calls) → ¬ (IsOk result)
    → Elapses slot_moment slot_left_since slot_may_leave old new result
same_time old new result (image, calls) failed = record {
  later = omega (arith, ap length calls);
  rises = λ ok. absurd (failed ok);
  nothing_else = λ t left le (k, from, to, was). inl (k, from, omega (arith, ap length calls, to), subst (λ i. DiskLeaves (disk_at i (take k old.calls)) left) image (subst (λ c. DiskLeaves (disk_at new.image (take k c)) left) calls was));
  keeps = λ t left le (k, from, to, was). (k, from, omega (arith, ap length calls, to), subst (λ i. DiskLeaves (disk_at i (take k new.calls)) left) (sym image) (subst (λ c. DiskLeaves (disk_at old.image (take k c)) left) (sym calls) was));
}

-- and of one with one more call
push_time : {T E : Type 0} (old new : SlotState) (call : CallRecord) (result : Result T E) → (new.image ≡ old.image) × (new.calls ≡ old.calls ++ call ∷ [])
    → Elapses slot_moment slot_left_since slot_may_leave old new result
push_time old new call result (image, calls) = record {
  later = omega (arith, longer);
  rises = λ ok. omega (arith, longer);
  nothing_else = λ t left le (k, from, to, was). ⊎_elim
      (λ (h : k ≤ length old.calls). inl (k, from, h, earlier k left h was))
      (λ (h : length new.calls ≤ k). inr (subst (λ c. DiskLeaves (disk_at new.image c) left) (take_all k new.calls h) was))
      (split k to);
  keeps = λ t left le (k, from, to, was). (k, from, omega (arith, longer, to), later k left to was);
}
  where
    longer : length new.calls ≡ length old.calls + 1
    longer = ap length calls ∙ length-append old.calls (call ∷ [])

    split : (k : ℕ) → k ≤ length new.calls → (k ≤ length old.calls) ⊎ (length new.calls ≤ k)
    split k to = ⊎_elim (λ lt. inl (omega (arith, longer, lt))) (λ ge. inr ge) (cases_lt k (length new.calls))

    front : (k : ℕ) → k ≤ length old.calls → take k new.calls ≡ take k old.calls
    front k h = ap (λ c. take k c) calls ∙ take-append-le k old.calls (call ∷ []) h

    earlier : (k : ℕ) (left : Image) → k ≤ length old.calls → DiskLeaves (disk_at new.image (take k new.calls)) left → DiskLeaves (disk_at old.image (take k old.calls)) left
    earlier k left h was = subst (λ i. DiskLeaves (disk_at i (take k old.calls)) left) image (subst (λ c. DiskLeaves (disk_at new.image c) left) (front k h) was)

    later : (k : ℕ) (left : Image) → k ≤ length old.calls → DiskLeaves (disk_at old.image (take k old.calls)) left → DiskLeaves (disk_at new.image (take k new.calls)) left
    later k left h was = subst (λ i. DiskLeaves (disk_at i (take k new.calls)) left) (sym image) (subst (λ c. DiskLeaves (disk_at old.image c) left) (sym (front k h)) was)

pub failed_time : {T E : Type 0} (old : SlotState) (call : SlotCall) (new : SlotState) (result : Result T E) → IsFailure old call new → ¬ (IsOk result)
    → Elapses slot_moment slot_left_since slot_may_leave old new result
failed_time old call new result (unrecorded takes is) failed = same_time old new result (ap (λ s. s.image) is, ap (λ s. s.calls) is) failed
failed_time old call new result (recorded end planned not_done is) failed =
    push_time old new (record { call = call; end = end }) result (ap (λ s. s.image) is, ap (λ s. s.calls) is)

-- time advances with each call
pub noted_time : {U T E : Type 0} (old : SlotState) (call : SlotCall) (new : SlotState) (noted : Result U refused.Failed) (result : Result T E) → IsNoted old call new noted
    → (IsOk result → IsOk noted) → Elapses slot_moment slot_left_since slot_may_leave old new result
noted_time old call new (Ok none) result is as_noted = push_time old new (record { call = call; end = Done }) result (ap (λ s. s.image) is.1, ap (λ s. s.calls) is.1)
noted_time old call new (Err refused) result is as_noted = failed_time old call new result is (λ ok. let refused_ok = as_noted ok in cc)

-- what a read returned has nothing to do with time
pub answered_time : {T E : Type 0} (old new : SlotState) (answered : Option Seen) (result : Result T E) → Elapses slot_moment slot_left_since slot_may_leave old new result
    → Elapses slot_moment slot_left_since slot_may_leave old (record new { answered = answered }) result
answered_time old new answered result time = record { later = time.later; rises = time.rises; nothing_else = time.nothing_else; keeps = time.keeps }

-- what each call leaves of the name
pub name_stays_PutTemp : (bytes : List ℕ) (end : CallEnd) (disk : Disk) → image_stood (disk_after (PutTemp bytes) end disk).name ≡ image_stood disk.name
name_stays_PutTemp bytes Done disk = refl
name_stays_PutTemp bytes Failed disk = refl
name_stays_PutTemp bytes FailedDone disk = refl

pub name_stays_SyncTemp : (end : CallEnd) (disk : Disk) → image_stood (disk_after SyncTemp end disk).name ≡ image_stood disk.name
name_stays_SyncTemp Done disk = refl
name_stays_SyncTemp Failed disk = refl
name_stays_SyncTemp FailedDone disk = refl

pub name_stays_SyncFolder : (end : CallEnd) (disk : Disk) → (disk_after SyncFolder end disk).name ≡ disk.name
name_stays_SyncFolder Done disk = refl
name_stays_SyncFolder Failed disk = refl
name_stays_SyncFolder FailedDone disk = refl

pub temporary_stays_SyncFolder : (end : CallEnd) (disk : Disk) → (disk_after SyncFolder end disk).temporary ≡ disk.temporary
temporary_stays_SyncFolder Done disk = refl
temporary_stays_SyncFolder Failed disk = refl
temporary_stays_SyncFolder FailedDone disk = refl

pub leaves_PutTemp : (bytes : List ℕ) (end : CallEnd) (disk : Disk) → LeavesNoMore (DiskLeaves disk) (DiskLeaves (disk_after (PutTemp bytes) end disk))
leaves_PutTemp bytes Done disk left leaves = leaves
leaves_PutTemp bytes Failed disk left leaves = leaves
leaves_PutTemp bytes FailedDone disk left leaves = leaves

pub leaves_SyncTemp : (end : CallEnd) (disk : Disk) → LeavesNoMore (DiskLeaves disk) (DiskLeaves (disk_after SyncTemp end disk))
leaves_SyncTemp Done disk left leaves = leaves
leaves_SyncTemp Failed disk left leaves = leaves
leaves_SyncTemp FailedDone disk left leaves = leaves

pub leaves_SyncFolder : (end : CallEnd) (disk : Disk) → LeavesNoMore (DiskLeaves disk) (DiskLeaves (disk_after SyncFolder end disk))
leaves_SyncFolder Done disk left (inl name) = inl name
leaves_SyncFolder Done disk left (inr none) = absurd none
leaves_SyncFolder Failed disk left leaves = leaves
leaves_SyncFolder FailedDone disk left leaves = leaves

takes : (temporary : Temporary) (disk : Disk) → LeavesAlso (DiskLeaves disk) (LeavesTemporary temporary) (DiskLeaves (takes_temporary temporary disk))
takes Unknown disk left leaves = inl leaves
takes (Unsynced bytes) disk left (inl torn) = inr torn
takes (Unsynced bytes) disk left (inr others) = inl others
takes (Synced bytes) disk left (inl whole) = inr whole
takes (Synced bytes) disk left (inr others) = inl others

misses : (temporary : Temporary) (disk : Disk) → LeavesAlso (DiskLeaves disk) (LeavesTemporary temporary) (DiskLeaves (misses_temporary temporary disk))
misses Unknown disk left leaves = inl leaves
misses (Unsynced bytes) disk left (inl name) = inl (inl name)
misses (Unsynced bytes) disk left (inr (inl torn)) = inr torn
misses (Unsynced bytes) disk left (inr (inr others)) = inl (inr others)
misses (Synced bytes) disk left (inl name) = inl (inl name)
misses (Synced bytes) disk left (inr (inl whole)) = inr whole
misses (Synced bytes) disk left (inr (inr others)) = inl (inr others)

pub leaves_Rename : (end : CallEnd) (disk : Disk) → LeavesAlso (DiskLeaves disk) (LeavesTemporary disk.temporary) (DiskLeaves (disk_after Rename end disk))
leaves_Rename Done disk = takes disk.temporary disk
leaves_Rename Failed disk = misses disk.temporary disk
leaves_Rename FailedDone disk = takes disk.temporary disk

gives_taken : (temporary : Temporary) (disk : Disk) → GivesTemporary temporary (image_stood (takes_temporary temporary disk).name)
gives_taken Unknown disk = tt
gives_taken (Unsynced bytes) disk = refl
gives_taken (Synced bytes) disk = refl

stays_missed : (temporary : Temporary) (disk : Disk) → image_stood (misses_temporary temporary disk).name ≡ image_stood disk.name
stays_missed Unknown disk = refl
stays_missed (Unsynced bytes) disk = refl
stays_missed (Synced bytes) disk = refl

pub gives_Rename : (disk : Disk) → GivesTemporary disk.temporary (image_stood (disk_after Rename Done disk).name)
gives_Rename disk = gives_taken disk.temporary disk

pub either_Rename : (end : CallEnd) (disk : Disk) → (image_stood (disk_after Rename end disk).name ≡ image_stood disk.name) ⊎ GivesTemporary disk.temporary (image_stood (disk_after Rename end disk).name)
either_Rename Done disk = inr (gives_taken disk.temporary disk)
either_Rename Failed disk = inl (stays_missed disk.temporary disk)
either_Rename FailedDone disk = inr (gives_taken disk.temporary disk)

pub leaves_Remove : (end : CallEnd) (disk : Disk) → LeavesAlso (DiskLeaves disk) (λ image. image ≡ None) (DiskLeaves (disk_after Remove end disk))
leaves_Remove Done disk left (inl none) = inr none
leaves_Remove Done disk left (inr others) = inl others
leaves_Remove Failed disk left (inl name) = inl (inl name)
leaves_Remove Failed disk left (inr (inl none)) = inr none
leaves_Remove Failed disk left (inr (inr others)) = inl (inr others)
leaves_Remove FailedDone disk left (inl none) = inr none
leaves_Remove FailedDone disk left (inr others) = inl others

pub either_Remove : (end : CallEnd) (disk : Disk) → (image_stood (disk_after Remove end disk).name ≡ image_stood disk.name) ⊎ (image_stood (disk_after Remove end disk).name ≡ None)
either_Remove Done disk = inr refl
either_Remove Failed disk = inl refl
either_Remove FailedDone disk = inr refl

settles : (name : Stood) (others : List Stood) → LeavesAnyBytes (LeavesOneOf (name ∷ others)) ⊎ Only (image_stood name) (LeavesOneOf (name ∷ []))
settles (Whole image) others = inr (λ left leaves. ⊎_elim (λ is. is) (λ none. absurd none) leaves)
settles (Torn bytes) others = inl (λ any. inl refl)

-- after a sync of the folder a crash leaves what a read returns
pub settles_SyncFolder : (disk : Disk) → LeavesAnyBytes (DiskLeaves disk) ⊎ Only (image_stood disk.name) (DiskLeaves (disk_after SyncFolder Done disk))
settles_SyncFolder disk = settles disk.name disk.others
