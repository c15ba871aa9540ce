-- The rename disk in memory: what a record of calls made of a name.
use Rattle.std.specs.Prelude.{◌≡◌, ℕ, ◌≤◌, ◌%◌, ◌⊎◌, ⊤, List, [], ◌∷◌, ◌++◌, length, map, reverse, get_or, take, fold, Contains, Option, None, Some, IsSome, true, false, Result, Ok, Err}
use Rattle.kr_outside.specs.declared.slot.DeviceCall.{DeviceCall}
use Rattle.kr_outside.specs.declared.slot.DeviceCall.TheVariants as device
use Rattle.kr_outside.specs.declared.slot.Seen.{Seen}
use Rattle.kr_outside.specs.declared.source.Failed as refused
use Rattle.kr_memory.specs.Plan.{next_count}
use Rattle.kr_outside.specs.Slot.{IsOneCall, OnlyLooks}
use Rattle.kr_outside.specs.RenameDisk.{Image, Temporary, Unknown, Unsynced, Synced, synced}
use Rattle.kr_memory_disk.specs.declared.slot.SlotCall.{SlotCall}
use Rattle.kr_memory_disk.specs.declared.slot.SlotCall.TheVariants.{Size, Read, PutTemp, SyncTemp, Rename, SyncFolder, Remove}
use Rattle.kr_memory_disk.specs.declared.slot.CallEnd.{CallEnd}
use Rattle.kr_memory_disk.specs.declared.slot.CallEnd.TheVariants.{Done, Failed, FailedDone}
use Rattle.kr_memory_disk.specs.declared.slot.CallRecord.{CallRecord}

-- what a name has stood for: this image and no other, or a file of these bytes that wasn't synced
pub data Stood : Type 0 where
  Whole : (image : Image) → Stood
  Torn : (bytes : List ℕ) → Stood

-- what a read of it returns
abbrev pub image_stood : Stood → Image
image_stood (Whole image) = image
image_stood (Torn bytes) = Some bytes

-- what a crash may leave of it: of a file that wasn't synced any bytes
abbrev pub LeavesStood : Stood → Image → Type 0
LeavesStood (Whole image) left = left ≡ image
LeavesStood (Torn bytes) left = IsSome left

-- what a crash may leave of one of them
abbrev pub LeavesOneOf : List Stood → Image → Type 0
LeavesOneOf [] left = ⊥
LeavesOneOf (stood ∷ others) left = LeavesStood stood left ⊎ LeavesOneOf others left

-- the disk: what the name stands for, what else it counts as having stood for since the last successful sync of the
-- folder, newest first, and the temporary file
pub record Disk : Type 0 where
  pub name : Stood
  pub others : List Stood
  pub temporary : Temporary

-- a name that stands for this image, which no crash undoes, without a temporary file
abbrev pub fresh_disk : Image → Disk
fresh_disk image = record { name = Whole image; others = []; temporary = Unknown }

-- the name stands for something else from now on
abbrev pub stands_for : Stood → Disk → Disk
stands_for stood disk = record { name = stood; others = disk.name ∷ disk.others; temporary = disk.temporary }

-- the name also counts as having stood for something else
abbrev pub counts_also : Stood → Disk → Disk
counts_also stood disk = record { name = disk.name; others = stood ∷ disk.others; temporary = disk.temporary }

-- the temporary file is a different one from now on
abbrev pub with_temporary : Temporary → Disk → Disk
with_temporary temporary disk = record { name = disk.name; others = disk.others; temporary = temporary }

-- the name takes the temporary file, if there is one
abbrev pub takes_temporary : Temporary → Disk → Disk
takes_temporary Unknown disk = disk
takes_temporary (Unsynced bytes) disk = with_temporary Unknown (stands_for (Torn bytes) disk)
takes_temporary (Synced bytes) disk = with_temporary Unknown (stands_for (Whole (Some bytes)) disk)

-- the name doesn't take the temporary file, but counts as having stood for it
abbrev pub misses_temporary : Temporary → Disk → Disk
misses_temporary Unknown disk = disk
misses_temporary (Unsynced bytes) disk = with_temporary Unknown (counts_also (Torn bytes) disk)
misses_temporary (Synced bytes) disk = with_temporary Unknown (counts_also (Whole (Some bytes)) disk)

-- the disk after a call with this end
abbrev pub disk_after : SlotCall → CallEnd → Disk → Disk
disk_after Size end disk = disk
disk_after Read end disk = disk
disk_after (PutTemp bytes) Done disk = with_temporary (Unsynced bytes) disk
disk_after (PutTemp bytes) end disk = with_temporary Unknown disk
disk_after SyncTemp Done disk = with_temporary (synced disk.temporary) disk
disk_after SyncTemp end disk = with_temporary Unknown disk
disk_after Rename Failed disk = misses_temporary disk.temporary disk
disk_after Rename end disk = takes_temporary disk.temporary disk
disk_after SyncFolder Done disk = record { name = disk.name; others = []; temporary = disk.temporary }
disk_after SyncFolder end disk = disk
disk_after Remove Failed disk = counts_also (Whole None) disk
disk_after Remove end disk = stands_for (Whole None) disk

-- the disk after these calls, the first one first
abbrev pub disk_at : Image → List CallRecord → Disk
disk_at image calls = fold (λ disk call. disk_after call.call call.end disk) (fresh_disk image) calls

-- what a crash of this disk may leave
abbrev pub DiskLeaves : Disk → Image → Type 0
DiskLeaves disk left = LeavesOneOf (disk.name ∷ disk.others) left

-- for each thing that the name counts as having stood for, an image that a crash may leave, in the order in which
-- they came to count, with what the name stands for last; for a file that wasn't synced, all its bytes
abbrev pub images_left : Disk → List Image
images_left disk = reverse (map image_stood (disk.name ∷ disk.others))

-- the one of them that a number picks; after the last one it starts again with the first
abbrev pub image_picked : Disk → ℕ → Image
image_picked disk choice = get_or (images_left disk) (choice % length (images_left disk)) None

-- a slot that fails as planned: the image that it began with, the record of its calls, the numbers of the calls
-- that should fail, those of them which the disk performs nevertheless, the count of faults, for how many more
-- records it has memory, the last call if it failed, and what the last read returned
pub record SlotState : Type 0 where
  pub image : Image
  pub calls : List CallRecord
  pub failing : List ℕ
  pub done : List ℕ
  pub faults : ℕ
  pub room : ℕ
  pub failed : Option DeviceCall
  pub answered : Option Seen

-- the disk of a slot
abbrev pub disk_of : SlotState → Disk
disk_of slot = disk_at slot.image slot.calls

-- what a read of it returns
abbrev pub slot_seen : SlotState → Image
slot_seen slot = image_stood (disk_of slot).name

-- its temporary file
abbrev pub slot_temporary : SlotState → Temporary
slot_temporary slot = (disk_of slot).temporary

-- what a crash now may leave
abbrev pub slot_may_leave : SlotState → Image → Type 0
slot_may_leave slot left = DiskLeaves (disk_of slot) left

-- the number of images of which a crash now leaves one
abbrev pub slot_count_left : SlotState → ℕ
slot_count_left slot = length (images_left (disk_of slot))

-- the image that this number picks
abbrev pub slot_left : SlotState → ℕ → Image
slot_left slot choice = image_picked (disk_of slot) choice

-- its clock: how many calls were recorded
abbrev pub slot_moment : SlotState → ℕ
slot_moment slot = length slot.calls

-- what a crash after that many calls or more might have left
abbrev pub slot_left_since : SlotState → ℕ → Image → Type 0
slot_left_since slot t left =
    (k : ℕ) × (t ≤ k) × (k ≤ length slot.calls) × DiskLeaves (disk_at slot.image (take k slot.calls)) left

-- what each of its calls keeps
abbrev pub IsSlotCall : {T E : Type 0} → DeviceCall → SlotState → SlotState → Result T E → Type 0
IsSlotCall call old new result =
    IsOneCall slot_moment slot_left_since slot_may_leave (λ _. true) (λ _. false) (λ s. s.faults) (λ s. s.failed) call old new result

-- and those that only look
abbrev pub SlotLooks : SlotState → SlotState → Type 0
SlotLooks old new = OnlyLooks slot_seen slot_temporary slot_may_leave (λ _. true) old new

-- how the next call should end
abbrev pub IsPlanned : SlotState → CallEnd → Type 0
IsPlanned slot Done = ¬ (Contains slot.failing (length slot.calls))
IsPlanned slot Failed = Contains slot.failing (length slot.calls) × ¬ (Contains slot.done (length slot.calls))
IsPlanned slot FailedDone = Contains slot.failing (length slot.calls) × Contains slot.done (length slot.calls)

-- the kind of a call, without its bytes
abbrev pub device_call : SlotCall → DeviceCall
device_call Size = device.Size
device_call Read = device.Read
device_call (PutTemp bytes) = device.PutTemp
device_call SyncTemp = device.SyncTemp
device_call Rename = device.Rename
device_call SyncFolder = device.SyncFolder
device_call Remove = device.Remove

-- the slot with one more call recorded, which has this end
abbrev pub with_call : SlotState → SlotCall → CallEnd → SlotState
with_call slot call end =
    record {
      image = slot.image;
      calls = slot.calls ++ (record { call = call; end = end }) ∷ [];
      failing = slot.failing;
      done = slot.done;
      faults = slot.faults;
      room = slot.room;
      failed = None;
      answered = slot.answered;
    }

-- the slot with one more fault counted, in this call
abbrev pub with_fault : DeviceCall → SlotState → SlotState
with_fault call slot =
    record {
      image = slot.image;
      calls = slot.calls;
      failing = slot.failing;
      done = slot.done;
      faults = next_count slot.faults;
      room = slot.room;
      failed = Some call;
      answered = slot.answered;
    }

-- the slot with memory for this many more records, and this result of the last read
abbrev pub with_rest : ℕ → Option Seen → SlotState → SlotState
with_rest room answered slot =
    record {
      image = slot.image;
      calls = slot.calls;
      failing = slot.failing;
      done = slot.done;
      faults = slot.faults;
      room = room;
      failed = slot.failed;
      answered = answered;
    }

-- memory may be refused in this call: for a record if there is no room for one, and for the bytes that are put
abbrev pub TakesMemory : SlotState → SlotCall → Type 0
TakesMemory slot (PutTemp bytes) = ⊤
TakesMemory slot other = slot.room ≡ 0

-- a call that failed: memory for it was refused, or it is recorded with this planned end
pub data IsFailure (old : SlotState) (call : SlotCall) (new : SlotState) : Type 0 where
  unrecorded : TakesMemory old call → new ≡ with_fault (device_call call) old → IsFailure old call new
  recorded : (end : CallEnd) → IsPlanned old end → ¬ (end ≡ Done)
      → new ≡ with_rest new.room new.answered (with_fault (device_call call) (with_call old call end)) → IsFailure old call new

-- what a call leaves: it is recorded if it succeeds, which it does only as planned
abbrev pub IsNoted : {T : Type 0} → SlotState → SlotCall → SlotState → Result T refused.Failed → Type 0
IsNoted old call new (Ok value) = IsPlanned old Done × (new ≡ with_rest new.room new.answered (with_call old call Done))
IsNoted old call new (Err refused) = IsFailure old call new
