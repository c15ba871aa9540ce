-- The places of a name and its temporary file, call by call.
use Rattle.std.proofs.Common.{◌≡◌, ℕ, ◌+◌, ◌<◌, List, [], ◌∷◌, ◌++◌, length, take, get_or, slice_get, Some, refl, sym, ◌∙◌, ap, subst, arith}
use Rattle.std.proofs.lemmas.List.{take_more, take_all}
use Rattle.std.proofs.lemmas.List.Sums.{fold-append}
use Rattle.kr_outside.specs.RenameDisk.{Image, Temporary, Unknown, synced}
use Rattle.kr_outside.specs.RenameDisk as temporary
use Rattle.kr_memory_disk.specs.declared.slot.SlotCall.{SlotCall}
use Rattle.kr_memory_disk.specs.declared.slot.SlotCall.TheVariants.{Size, Read, PutTemp, SyncTemp, Rename, SyncFolder, Remove}
use Rattle.kr_memory_disk.specs.declared.slot.CallEnd.{CallEnd}
use Rattle.kr_memory_disk.specs.declared.slot.CallEnd.TheVariants.{Done, Failed, FailedDone}
use Rattle.kr_memory_disk.specs.declared.slot.CallRecord.{CallRecord}
use Rattle.kr_memory_disk.specs.declared.place.Place.{Place}
use Rattle.kr_memory_disk.specs.declared.place.Place.TheVariants.{Start, Missing, Unsynced, Synced}
use Rattle.kr_memory_disk.specs.declared.place.Standing.{Standing}
use Rattle.kr_memory_disk.specs.Slot.{Disk, disk_after, disk_at, takes_temporary, misses_temporary}
use Rattle.kr_memory_disk.specs.Place.{bytes_at, bytes_put, bytes_of_call, stood_at, temporary_at, synced_place, taken_place, standing_after, StandsAt}

-- the places after the first `count` calls
pub record StandsBefore (calls : List CallRecord) (count : ℕ) (standing : Standing) : Type 0 where
  pub name : (image : Image) → stood_at image calls standing.name ≡ (disk_at image (take count calls)).name
  pub temporary : (image : Image) → temporary_at calls standing.temporary ≡ (disk_at image (take count calls)).temporary

module _ (image : Image) (calls : List CallRecord) where
  synced_there : (place : Place) → temporary_at calls (synced_place place) ≡ synced (temporary_at calls place)
  synced_there Start = refl
  synced_there Missing = refl
  synced_there (Unsynced number) = refl
  synced_there (Synced number) = refl

  taken_name : (place : Place) (standing : Standing) (disk : Disk) → stood_at image calls standing.name ≡ disk.name → stood_at image calls (taken_place place standing).name ≡ (takes_temporary (temporary_at calls place) disk).name
  taken_name Start standing disk name = name
  taken_name Missing standing disk name = name
  taken_name (Unsynced number) standing disk name = refl
  taken_name (Synced number) standing disk name = refl

  taken_temporary : (place : Place) (standing : Standing) (disk : Disk) → temporary_at calls standing.temporary ≡ disk.temporary → temporary_at calls (taken_place place standing).temporary ≡ (takes_temporary (temporary_at calls place) disk).temporary
  taken_temporary Start standing disk same = same
  taken_temporary Missing standing disk same = same
  taken_temporary (Unsynced number) standing disk same = refl
  taken_temporary (Synced number) standing disk same = refl

  missed_name : (left : Temporary) (disk : Disk) → disk.name ≡ (misses_temporary left disk).name
  missed_name temporary.Unknown disk = refl
  missed_name (temporary.Unsynced bytes) disk = refl
  missed_name (temporary.Synced bytes) disk = refl

  missed_temporary : (left : Temporary) (disk : Disk) → left ≡ disk.temporary → Unknown ≡ (misses_temporary left disk).temporary
  missed_temporary temporary.Unknown disk same = same
  missed_temporary (temporary.Unsynced bytes) disk same = refl
  missed_temporary (temporary.Synced bytes) disk same = refl

  -- one more call
  after_call : (number : ℕ) (call : SlotCall) (end : CallEnd) (standing : Standing) (disk : Disk) → bytes_at calls number ≡ bytes_put call
      → stood_at image calls standing.name ≡ disk.name → temporary_at calls standing.temporary ≡ disk.temporary
      → (stood_at image calls (standing_after call end number standing).name ≡ (disk_after call end disk).name)
      × (temporary_at calls (standing_after call end number standing).temporary ≡ (disk_after call end disk).temporary)
  after_call number Size end standing disk put name same = (name, same)
  after_call number Read end standing disk put name same = (name, same)
  after_call number (PutTemp bytes) Done standing disk put name same = (name, ap (λ b. temporary.Unsynced b) put)
  after_call number (PutTemp bytes) Failed standing disk put name same = (name, refl)
  after_call number (PutTemp bytes) FailedDone standing disk put name same = (name, refl)
  after_call number SyncTemp Done standing disk put name same = (name, synced_there standing.temporary ∙ ap synced same)
  after_call number SyncTemp Failed standing disk put name same = (name, refl)
  after_call number SyncTemp FailedDone standing disk put name same = (name, refl)
  after_call number Rename Failed standing disk put name same = (name ∙ missed_name disk.temporary disk, missed_temporary disk.temporary disk refl)
  after_call number Rename Done standing disk put name same = (
    subst (λ t. stood_at image calls (taken_place standing.temporary standing).name ≡ (takes_temporary t disk).name) same (taken_name standing.temporary standing disk name),
    subst (λ t. temporary_at calls (taken_place standing.temporary standing).temporary ≡ (takes_temporary t disk).temporary) same (taken_temporary standing.temporary standing disk same),
  )
  after_call number Rename FailedDone standing disk put name same = (
    subst (λ t. stood_at image calls (taken_place standing.temporary standing).name ≡ (takes_temporary t disk).name) same (taken_name standing.temporary standing disk name),
    subst (λ t. temporary_at calls (taken_place standing.temporary standing).temporary ≡ (takes_temporary t disk).temporary) same (taken_temporary standing.temporary standing disk same),
  )
  after_call number SyncFolder Done standing disk put name same = (name, same)
  after_call number SyncFolder Failed standing disk put name same = (name, same)
  after_call number SyncFolder FailedDone standing disk put name same = (name, same)
  after_call number Remove Failed standing disk put name same = (name, same)
  after_call number Remove Done standing disk put name same = (refl, same)
  after_call number Remove FailedDone standing disk put name same = (refl, same)

pub StandsBefore-none : (calls : List CallRecord) → StandsBefore calls 0 (record { name = Start; temporary = Missing })
StandsBefore-none calls = record { name = λ image. refl; temporary = λ image. refl }

-- the call with this number
pub StandsBefore-more : (calls : List CallRecord) (number : ℕ) (call : CallRecord) (standing : Standing) → number < length calls → slice_get calls number ≡ Some call → get_or calls number call ≡ call
    → StandsBefore calls number standing → StandsBefore calls (number + 1) (standing_after call.call call.end number standing)
StandsBefore-more calls number call standing within found is before = record {
  name = λ image. (step image).0 ∙ sym (ap (λ d. d.name) (disk_more image));
  temporary = λ image. (step image).1 ∙ sym (ap (λ d. d.temporary) (disk_more image));
}
  where
    front : take (number + 1) calls ≡ take number calls ++ call ∷ []
    front = take_more calls number call within ∙ ap (λ (r : CallRecord). take number calls ++ r ∷ []) is

    disk_more : (image : Image) → disk_at image (take (number + 1) calls) ≡ disk_after call.call call.end (disk_at image (take number calls))
    disk_more image = ap (λ (c : List CallRecord). disk_at image c) front ∙ fold-append _ _ (take number calls) _

    put : bytes_at calls number ≡ bytes_put call.call
    put = ap bytes_of_call found

    step : (image : Image) → (stood_at image calls (standing_after call.call call.end number standing).name ≡ (disk_after call.call call.end (disk_at image (take number calls))).name)
        × (temporary_at calls (standing_after call.call call.end number standing).temporary ≡ (disk_after call.call call.end (disk_at image (take number calls))).temporary)
    step image = after_call image calls number call.call call.end standing (disk_at image (take number calls)) put (before.name image) (before.temporary image)

-- all of them
pub StandsBefore-all : (calls : List CallRecord) (count : ℕ) (standing : Standing) → length calls ≡ count → StandsBefore calls count standing → StandsAt calls standing
StandsBefore-all calls count standing is before = record {
  name = λ image. before.name image ∙ ap (λ c. (disk_at image c).name) (take_all count calls (omega (arith, is)));
  temporary = λ image. before.temporary image ∙ ap (λ c. (disk_at image c).temporary) (take_all count calls (omega (arith, is)));
}
