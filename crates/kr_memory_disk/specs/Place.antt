-- Where the bytes of a name are in a record of calls.
use Rattle.std.specs.Prelude.{◌≡◌, ℕ, List, [], Option, None, Some, slice_get}
use Rattle.kr_outside.specs.RenameDisk.{Image, Temporary, Unknown}
use Rattle.kr_outside.specs.RenameDisk as temporary
use Rattle.kr_memory_disk.specs.declared.slot.SlotCall.{SlotCall}
use Rattle.kr_memory_disk.specs.declared.slot.SlotCall.TheVariants.{PutTemp, SyncTemp, Rename, Remove}
use Rattle.kr_memory_disk.specs.declared.slot.CallEnd.{CallEnd}
use Rattle.kr_memory_disk.specs.declared.slot.CallEnd.TheVariants.{Done, Failed}
use Rattle.kr_memory_disk.specs.declared.slot.CallRecord.{CallRecord}
use Rattle.kr_memory_disk.specs.declared.place.Place.{Place}
use Rattle.kr_memory_disk.specs.declared.place.Place.TheVariants.{Start, Missing, Unsynced, Synced}
use Rattle.kr_memory_disk.specs.declared.place.Standing.{Standing}
use Rattle.kr_memory_disk.specs.Slot.{Stood, Whole, Torn, disk_at}

-- the bytes that a call put into the temporary file
abbrev pub bytes_put : SlotCall → List ℕ
bytes_put (PutTemp bytes) = bytes
bytes_put other = []

-- the same for the call at an index, no bytes if there is no such call
abbrev pub bytes_of_call : Option CallRecord → List ℕ
bytes_of_call None = []
bytes_of_call (Some call) = bytes_put call.call

-- the bytes that the call with this number put
abbrev pub bytes_at : List CallRecord → ℕ → List ℕ
bytes_at calls number = bytes_of_call (slice_get calls number)

-- what a name stands for if it has this place
abbrev pub stood_at : Image → List CallRecord → Place → Stood
stood_at image calls Start = Whole image
stood_at image calls Missing = Whole None
stood_at image calls (Unsynced number) = Torn (bytes_at calls number)
stood_at image calls (Synced number) = Whole (Some (bytes_at calls number))

-- what the temporary file is if it has this place
abbrev pub temporary_at : List CallRecord → Place → Temporary
temporary_at calls Start = Unknown
temporary_at calls Missing = Unknown
temporary_at calls (Unsynced number) = temporary.Unsynced (bytes_at calls number)
temporary_at calls (Synced number) = temporary.Synced (bytes_at calls number)

-- the place after a sync of the temporary file
abbrev pub synced_place : Place → Place
synced_place Start = Missing
synced_place Missing = Missing
synced_place (Unsynced number) = Synced number
synced_place (Synced number) = Synced number

-- the name takes the temporary file, if there is one
abbrev pub taken_place : Place → Standing → Standing
taken_place Start standing = standing
taken_place Missing standing = standing
taken_place (Unsynced number) standing = record { name = Unsynced number; temporary = Missing }
taken_place (Synced number) standing = record { name = Synced number; temporary = Missing }

-- the places of the name and of the temporary file after the call with this number
abbrev pub standing_after : SlotCall → CallEnd → ℕ → Standing → Standing
standing_after (PutTemp bytes) Done number standing = record { name = standing.name; temporary = Unsynced number }
standing_after (PutTemp bytes) end number standing = record { name = standing.name; temporary = Missing }
standing_after SyncTemp Done number standing = record { name = standing.name; temporary = synced_place standing.temporary }
standing_after SyncTemp end number standing = record { name = standing.name; temporary = Missing }
standing_after Rename Failed number standing = record { name = standing.name; temporary = Missing }
standing_after Rename end number standing = taken_place standing.temporary standing
standing_after Remove Failed number standing = standing
standing_after Remove end number standing = record { name = Missing; temporary = standing.temporary }
standing_after other end number standing = standing

-- after the calls, the name and the temporary file have these places
pub record StandsAt (calls : List CallRecord) (standing : Standing) : Type 0 where
  pub name : (image : Image) → stood_at image calls standing.name ≡ (disk_at image calls).name
  pub temporary : (image : Image) → temporary_at calls standing.temporary ≡ (disk_at image calls).temporary
