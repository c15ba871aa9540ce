-- The laws of the moments of a slot in memory.
use Rattle.std.specs.Prelude.{◌≡◌, ℕ, ◌≤◌, [], length}
use Rattle.std.proofs.Common.{inl, refl, subst, sym, ap, arith}
use Rattle.std.proofs.lemmas.List.{take_all}
use Rattle.kr_outside.specs.RenameDisk.{Image}
use Rattle.kr_memory_disk.specs.Slot.{Stood, Whole, Torn, LeavesStood, DiskLeaves, image_stood, disk_at, SlotState, slot_may_leave, slot_left_since, slot_seen, slot_moment, disk_of}

-- what a name stands for is among what a crash may leave of it
pub leaves_itself : (stood : Stood) → LeavesStood stood (image_stood stood)
leaves_itself (Whole image) = refl
leaves_itself (Torn bytes) = refl

-- a crash may leave what a read returns
pub leaves_seen : (slot : SlotState) → slot_may_leave slot (slot_seen slot)
leaves_seen slot = inl (leaves_itself (disk_of slot).name)

-- what a crash now may leave is among what it might have left since any moment up to now
pub counts_moment : (slot : SlotState) (t : ℕ) (left : Image) → t ≤ slot_moment slot → slot_may_leave slot left → slot_left_since slot t left
counts_moment slot t left le now =
    (length slot.calls, le, omega arith, subst (λ calls. DiskLeaves (disk_at slot.image calls) left) (sym (take_all (length slot.calls) slot.calls (omega arith))) now)

-- what a crash might have left since the present moment is what it may leave now
pub only_moment : (slot : SlotState) (left : Image) → slot_left_since slot (slot_moment slot) left → slot_may_leave slot left
only_moment slot left (k, from, to, was) =
    subst (λ calls. DiskLeaves (disk_at slot.image calls) left) (take_all k slot.calls from) was

-- before its first call a crash might have left what it may leave now
pub fresh_left : (slot : SlotState) (left : Image) → slot.calls ≡ [] → slot_left_since slot 0 left → slot_may_leave slot left
fresh_left slot left none (k, from, to, was) = only_moment slot left (k, omega (arith, ap length none), to, was)
