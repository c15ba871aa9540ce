-- The places of the images that a crash may leave.
use Rattle.std.specs.Prelude.{◌≡◌, List, [], ◌∷◌, ◌++◌, map}
use Rattle.kr_outside.specs.RenameDisk.{Image}
use Rattle.kr_memory_disk.specs.declared.slot.SlotCall.{SlotCall}
use Rattle.kr_memory_disk.specs.declared.slot.SlotCall.TheVariants.{Rename, SyncFolder, Remove}
use Rattle.kr_memory_disk.specs.declared.slot.CallEnd.{CallEnd}
use Rattle.kr_memory_disk.specs.declared.slot.CallEnd.TheVariants.{Done, Failed}
use Rattle.kr_memory_disk.specs.declared.slot.CallRecord.{CallRecord}
use Rattle.kr_memory_disk.specs.declared.place.Place.{Place}
use Rattle.kr_memory_disk.specs.declared.place.Place.TheVariants.{Start, Missing, Unsynced, Synced}
use Rattle.kr_memory_disk.specs.declared.place.Standing.{Standing}
use Rattle.kr_memory_disk.specs.Place.{stood_at}
use Rattle.kr_memory_disk.specs.Slot.{disk_at, image_stood, images_left}

-- what the name stands for if it has this place
abbrev pub image_there : Image → List CallRecord → Place → Image
image_there image calls place = image_stood (stood_at image calls place)

-- after these calls, the images at these places are those that a crash may leave, in order
abbrev pub LieAt : List CallRecord → List Place → Type 0
LieAt calls places =
    (image : Image) → map (image_there image calls) places ≡ images_left (disk_at image calls)

-- the places and one more, if there is a temporary file
abbrev pub with_if_file : Place → Place → List Place → List Place
with_if_file Start place places = places
with_if_file Missing place places = places
with_if_file (Unsynced number) place places = places ++ place ∷ []
with_if_file (Synced number) place places = places ++ place ∷ []

-- the places of what else the name counts as having stood for, the oldest first, after a call with this end
abbrev pub others_after : SlotCall → CallEnd → Standing → List Place → List Place
others_after Rename Failed standing places =
    with_if_file standing.temporary standing.temporary places
others_after Rename end standing places = with_if_file standing.temporary standing.name places
others_after Remove Failed standing places = places ++ Missing ∷ []
others_after Remove end standing places = places ++ standing.name ∷ []
others_after SyncFolder Done standing places = []
others_after other end standing places = places
