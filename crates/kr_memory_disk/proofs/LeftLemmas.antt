-- The places of the images that a crash may leave, call by call, and that it may leave each of them.
use Rattle.std.proofs.Common.{◌≡◌, ⊎_elim, inl, inr, ℕ, zero, suc, ◌+◌, ◌%◌, ◌<◌, List, [], ◌∷◌, ◌++◌, length, map, reverse, take, get_or, slice_get, None, Some, refl, sym, ◌∙◌, ap, subst, arith}
use Rattle.std.specs.List.{Contains}
use Rattle.std.proofs.lemmas.List.{take_more, take_all, map-append, reverse-append, reverse-reverse, length-reverse}
use Rattle.std.proofs.lemmas.List.Elements.{Contains-get_or, Contains-append_cases}
use Rattle.std.proofs.lemmas.List.Sums.{fold-append}
use Rattle.kr_outside.specs.RenameDisk.{Image}
use Rattle.kr_memory_disk.specs.declared.slot.SlotCall.{SlotCall}
use Rattle.kr_memory_disk.specs.declared.slot.SlotCall.TheVariants.{Size, Read, PutTemp, SyncTemp, Rename, SyncFolder, Remove}
use Rattle.kr_memory_disk.specs.declared.slot.CallEnd.{CallEnd}
use Rattle.kr_memory_disk.specs.declared.slot.CallEnd.TheVariants.{Done, Failed, FailedDone}
use Rattle.kr_memory_disk.specs.declared.slot.CallRecord.{CallRecord}
use Rattle.kr_memory_disk.specs.declared.place.Place.{Place}
use Rattle.kr_memory_disk.specs.declared.place.Place.TheVariants.{Start, Missing, Unsynced, Synced}
use Rattle.kr_memory_disk.specs.declared.place.Standing.{Standing}
use Rattle.kr_memory_disk.specs.Place.{stood_at, temporary_at, standing_after}
use Rattle.kr_memory_disk.specs.Slot.{Stood, image_stood, Disk, DiskLeaves, LeavesStood, LeavesOneOf, disk_after, disk_at, takes_temporary, misses_temporary, images_left, image_picked}
use Rattle.kr_memory_disk.specs.Left.{image_there, LieAt, with_if_file, others_after}
use Rattle.kr_memory_disk.specs.SlotLaws.{leaves_itself}
use Rattle.kr_memory_disk.proofs.PlaceLemmas.{StandsBefore, StandsBefore-none, StandsBefore-more}

-- a crash may leave the image of each of these things
each_leaves : (stoods : List Stood) (image : Image) → Contains (reverse (map image_stood stoods)) image → LeavesOneOf stoods image
each_leaves [] image (k, within, is) = absurd (omega (arith, within))
each_leaves (stood ∷ stoods) image contains = ⊎_elim
    (λ later. inr (each_leaves stoods image later))
    (λ first. inl (only first))
    (Contains-append_cases (reverse (map image_stood stoods)) (image_stood stood ∷ []) image (subst (λ images. Contains images image) (reverse-append (image_stood stood ∷ []) (map image_stood stoods)) contains))
  where
    only : Contains (image_stood stood ∷ []) image → LeavesStood stood image
    only (zero, within, is) = subst (LeavesStood stood) is (leaves_itself stood)
    only (suc k, within, is) = absurd (omega (arith, within))

-- there is an image for each of them
pub images_left-some : (disk : Disk) → 0 < length (images_left disk)
images_left-some disk = let is = length-reverse (map image_stood (disk.name ∷ disk.others)) in omega (arith, is)

-- a crash may leave the image that a number picks
pub picked_leaves : (disk : Disk) (choice : ℕ) → DiskLeaves disk (image_picked disk choice)
picked_leaves disk choice =
    let some = images_left-some disk in
    let within : choice % length (images_left disk) < length (images_left disk) = omega (arith, some) in
    each_leaves (disk.name ∷ disk.others) (image_picked disk choice) (Contains-get_or (images_left disk) (choice % length (images_left disk)) None within)

-- the places of what else counts, after the first `count` calls, the oldest first
pub record LieBefore (calls : List CallRecord) (count : ℕ) (standing : Standing) (places : List Place) : Type 0 where
  pub stands : StandsBefore calls count standing
  pub others : (image : Image) → map (stood_at image calls) (reverse places) ≡ (disk_at image (take count calls)).others

pub LieBefore-none : (calls : List CallRecord) → LieBefore calls 0 (record { name = Start; temporary = Missing }) []
LieBefore-none calls = record { stands = StandsBefore-none calls; others = λ image. refl }

module _ (image : Image) (calls : List CallRecord) where
  -- one more place
  pushed : (places : List Place) (place : Place) → map (stood_at image calls) (reverse (places ++ place ∷ [])) ≡ stood_at image calls place ∷ map (stood_at image calls) (reverse places)
  pushed places place = ap (λ p. map (stood_at image calls) p) (reverse-append places (place ∷ []))

  also : (places : List Place) (place : Place) (stood : Stood) (others : List Stood) → stood_at image calls place ≡ stood → map (stood_at image calls) (reverse places) ≡ others
      → map (stood_at image calls) (reverse (places ++ place ∷ [])) ≡ stood ∷ others
  also places place stood others is same = pushed places place ∙ ap (λ s. s ∷ map (stood_at image calls) (reverse places)) is ∙ ap (λ o. stood ∷ o) same

  missed : (place : Place) (places : List Place) (disk : Disk) → map (stood_at image calls) (reverse places) ≡ disk.others
      → map (stood_at image calls) (reverse (with_if_file place place places)) ≡ (misses_temporary (temporary_at calls place) disk).others
  missed Start places disk same = same
  missed Missing places disk same = same
  missed (Unsynced number) places disk same = also places (Unsynced number) _ _ refl same
  missed (Synced number) places disk same = also places (Synced number) _ _ refl same

  taken : (place name : Place) (places : List Place) (disk : Disk) → stood_at image calls name ≡ disk.name → map (stood_at image calls) (reverse places) ≡ disk.others
      → map (stood_at image calls) (reverse (with_if_file place name places)) ≡ (takes_temporary (temporary_at calls place) disk).others
  taken Start name places disk is same = same
  taken Missing name places disk is same = same
  taken (Unsynced number) name places disk is same = also places name _ _ is same
  taken (Synced number) name places disk is same = also places name _ _ is same

  -- one more call
  others_after_call : (call : SlotCall) (end : CallEnd) (standing : Standing) (places : List Place) (disk : Disk)
      → stood_at image calls standing.name ≡ disk.name → temporary_at calls standing.temporary ≡ disk.temporary → map (stood_at image calls) (reverse places) ≡ disk.others
      → map (stood_at image calls) (reverse (others_after call end standing places)) ≡ (disk_after call end disk).others
  others_after_call Size end standing places disk name temporary same = same
  others_after_call Read end standing places disk name temporary same = same
  others_after_call (PutTemp bytes) Done standing places disk name temporary same = same
  others_after_call (PutTemp bytes) Failed standing places disk name temporary same = same
  others_after_call (PutTemp bytes) FailedDone standing places disk name temporary same = same
  others_after_call SyncTemp Done standing places disk name temporary same = same
  others_after_call SyncTemp Failed standing places disk name temporary same = same
  others_after_call SyncTemp FailedDone standing places disk name temporary same = same
  others_after_call Rename Failed standing places disk name temporary same =
      subst (λ t. map (stood_at image calls) (reverse (with_if_file standing.temporary standing.temporary places)) ≡ (misses_temporary t disk).others) temporary (missed standing.temporary places disk same)
  others_after_call Rename Done standing places disk name temporary same =
      subst (λ t. map (stood_at image calls) (reverse (with_if_file standing.temporary standing.name places)) ≡ (takes_temporary t disk).others) temporary (taken standing.temporary standing.name places disk name same)
  others_after_call Rename FailedDone standing places disk name temporary same =
      subst (λ t. map (stood_at image calls) (reverse (with_if_file standing.temporary standing.name places)) ≡ (takes_temporary t disk).others) temporary (taken standing.temporary standing.name places disk name same)
  others_after_call SyncFolder Done standing places disk name temporary same = refl
  others_after_call SyncFolder Failed standing places disk name temporary same = same
  others_after_call SyncFolder FailedDone standing places disk name temporary same = same
  others_after_call Remove Failed standing places disk name temporary same = also places Missing _ _ refl same
  others_after_call Remove Done standing places disk name temporary same = also places standing.name _ _ name same
  others_after_call Remove FailedDone standing places disk name temporary same = also places standing.name _ _ name same

-- the call with this number
pub LieBefore-more : (calls : List CallRecord) (number : ℕ) (call : CallRecord) (standing : Standing) (places : List Place) → number < length calls → slice_get calls number ≡ Some call → get_or calls number call ≡ call
    → LieBefore calls number standing places → LieBefore calls (number + 1) (standing_after call.call call.end number standing) (others_after call.call call.end standing places)
LieBefore-more calls number call standing places within found is before = record {
  stands = StandsBefore-more calls number call standing within found is before.stands;
  others = λ image. others_after_call image calls call.call call.end standing places (disk_at image (take number calls)) (before.stands.name image) (before.stands.temporary image) (before.others image)
      ∙ sym (ap (λ d. d.others) (disk_more image));
}
  where
    front : take (number + 1) calls ≡ take number calls ++ call ∷ []
    front = take_more calls number call within ∙ ap (λ (r : CallRecord). take number calls ++ r ∷ []) is

    disk_more : (image : Image) → disk_at image (take (number + 1) calls) ≡ disk_after call.call call.end (disk_at image (take number calls))
    disk_more image = ap (λ (c : List CallRecord). disk_at image c) front ∙ fold-append _ _ (take number calls) _

reverse_map : {A B : Type 0} (f : A → B) (xs : List A) → reverse (map f xs) ≡ map f (reverse xs)
reverse_map f [] = refl
reverse_map f (x ∷ xs) = reverse-append (f x ∷ []) (map f xs) ∙ ap (λ l. l ++ f x ∷ []) (reverse_map f xs) ∙ sym (map-append f (reverse xs) (x ∷ [])) ∙ ap (λ l. map f l) (sym (reverse-append (x ∷ []) xs))

-- all of them, and what the name stands for
pub LieBefore-all : (calls : List CallRecord) (count : ℕ) (standing : Standing) (places : List Place) → length calls ≡ count → LieBefore calls count standing places → LieAt calls (places ++ standing.name ∷ [])
LieBefore-all calls count standing places is before image =
    ap (λ p. map (image_there image calls) p) (sym (reverse-reverse (places ++ standing.name ∷ [])))
    ∙ sym (reverse_map (image_there image calls) (reverse (places ++ standing.name ∷ [])))
    ∙ ap (λ images. reverse images) (twice (reverse (places ++ standing.name ∷ [])))
    ∙ ap (λ stoods. reverse (map image_stood stoods)) stand
  where
    whole : disk_at image (take count calls) ≡ disk_at image calls
    whole = ap (λ c. disk_at image c) (take_all count calls (omega (arith, is)))

    stand : map (stood_at image calls) (reverse (places ++ standing.name ∷ [])) ≡ (disk_at image calls).name ∷ (disk_at image calls).others
    stand = also image calls places standing.name _ _ (before.stands.name image ∙ ap (λ d. d.name) whole) (before.others image ∙ ap (λ d. d.others) whole)

    twice : (p : List Place) → map (image_there image calls) p ≡ map image_stood (map (stood_at image calls) p)
    twice [] = refl
    twice (place ∷ p) = ap (λ l. image_there image calls place ∷ l) (twice p)

-- the image at the place that a number picks
pub picked_there : (image : Image) (calls : List CallRecord) (places : List Place) (choice : ℕ) → LieAt calls places
    → image_there image calls (get_or places (choice % length places) Missing) ≡ image_picked (disk_at image calls) choice
picked_there image calls places choice lie =
    there places (choice % length places) ∙ ap (λ k. get_or (map (image_there image calls) places) (choice % k) None) (counted places)
    ∙ ap (λ images. get_or images (choice % length images) None) (lie image)
  where
    there : (p : List Place) (k : ℕ) → image_there image calls (get_or p k Missing) ≡ get_or (map (image_there image calls) p) k None
    there [] k = refl
    there (place ∷ p) zero = refl
    there (place ∷ p) (suc k) = there p k

    counted : (p : List Place) → length p ≡ length (map (image_there image calls) p)
    counted [] = refl
    counted (place ∷ p) = ap suc (counted p)
