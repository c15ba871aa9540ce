-- How one file changes what is open, at each exit of the call that takes it.
use Rattle.std.proofs.Common.{◌≡◌, ◌⊎◌, ⊎_elim, inl, inr, ℕ, ◌+◌, ◌<◌, Option, List, [], ◌∷◌, ◌++◌, Bool, true, false, IsTrue, None, Some, IsSome, Result, Ok, Err, OnOk, OnErr, length, refl, sym, ◌∙◌, ap, subst, arith}
use Rattle.std.specs.List.{All, Contains}
use Rattle.std.specs.Prelude.{IfSome}
use Rattle.std.proofs.lemmas.List.{length-append}
use Rattle.std.proofs.lemmas.List.Elements.{All-append, All-cons, All-nil, Contains-push}
use Rattle.kr_outside.specs.Faults.{Rose, KeepsSteady, last_count}
use Rattle.kr_outside.specs.declared.slot.DeviceCall.{DeviceCall}
use Rattle.kr_outside.specs.declared.slot.Slot.{Ghosts}
use Rattle.kr_outside.specs.Moments.{LeavesOnly}
use Rattle.kr_outside.specs.RenameDisk.{Image, Temporary, Unknown, Only, LeavesAnyBytes, LeavesNoMore}
use Rattle.kr_outside.specs.Slot.{KeepsNature, OnlyLooks}
use Rattle.keyring_file.specs.Clear.{ClearPart}
use Rattle.keyring_file.specs.ClearText.{HasClear}
use Rattle.folder_store.specs.declared.limits.Limits.{Limits}
use Rattle.folder_store.specs.Names.{IsRingName, IsLoadName}
use Rattle.folder_store.specs.Opened.{Takes, other, left_alone, Fits, leaves_alone}
use Rattle.folder_store.specs.Ring.{rows_of, IsAsFound, HandsBack, with_ring, alone, ReturnsAll, between_files, at_a_file, IsLook, HasFailedSlot, NoneFailed, RingState}
use Rattle.folder_store.specs.declared.opening.LeftAlone.{LeftAlone}
use Rattle.folder_store.specs.Walk.{OpeningState, plain, MakesAtMost, none, one, Visits, Keeps, in_ring, by_itself, StopsAt}

-- an empty file isn't a keyring file
no_keyring : (clear : ClearPart) → HasClear [] clear → ⊥
no_keyring clear (area, is) =
    let whole : 0 ≡ length is.text.front + length is.text.back = ap length is.text.parts ∙ length-append is.text.front is.text.back in
    let head = is.text.is_first in
    let front : length is.text.front ≡ length head.front + length head.back = ap length head.parts ∙ length-append head.front head.back in
    let magic : length head.front ≡ 16 = ap length head.is_first in
    absurd (omega (arith, whole, front, magic))

module _ {S : Type 0} (limits : Limits) (name stem : List ℕ) (made_old made_new : List (List ℕ)) (old new : OpeningState S) (named : IsRingName name stem) (left : plain new ≡ leaves_alone stem (plain old)) where
  with_image : (honest : Bool) (seen : Image) (image : List ℕ) → MakesAtMost name new.used made_old made_new
      → ((clear : ClearPart) → HasClear image clear → ¬ (Fits limits (rows_of old.rings) clear image))
      → (IsTrue honest → IsSome seen → seen ≡ Some image) → Visits limits honest seen name made_old made_new old new
  with_image honest seen image made off told = record {
    image = image;
    takes = subst (Takes limits name image (plain old)) (sym left) (left_alone stem named off);
    told = told;
    made = made;
  }

  -- the file wasn't read, or couldn't be listed
  pub Visits-left : (honest : Bool) (seen : Image) → MakesAtMost name new.used made_old made_new
      → (IsTrue honest → (bytes : List ℕ) → seen ≡ Some bytes → (clear : ClearPart) → ¬ (Fits limits (rows_of old.rings) clear bytes))
      → Visits limits honest seen name made_old made_new old new
  Visits-left false seen made off = with_image false seen [] made (λ clear reads fits. no_keyring clear reads) (λ is some. absurd (let never : ⊥ = cc in never))
  Visits-left true None made off = with_image true None [] made (λ clear reads fits. no_keyring clear reads) (λ is some. absurd (let never : ⊥ = cc in never))
  Visits-left true (Some bytes) made off = with_image true (Some bytes) bytes made (λ clear reads fits. off refl bytes refl clear fits) (λ is some. refl)

-- the bytes of an image, or none if there is no file
bytes_in_image : (seen : Image) → (image : List ℕ) × (IsSome seen → seen ≡ Some image)
bytes_in_image None = ([], λ some. let never : ⊥ = cc in absurd never)
bytes_in_image (Some bytes) = (bytes, λ some. refl)

-- a name of another form changes nothing
pub Visits-other : {S : Type 0} (limits : Limits) (honest : Bool) (seen : Image) (name : List ℕ) (made : List (List ℕ)) (opening : OpeningState S) → ((stem : List ℕ) → IsRingName name stem → ⊥) → Visits limits honest seen name made made opening opening
Visits-other limits honest seen name made opening off = record {
  image = (bytes_in_image seen).0;
  takes = other off;
  told = λ is some. (bytes_in_image seen).1 some;
  made = none;
}

-- a file that was read
pub Visits-read : {S : Type 0} (limits : Limits) (honest : Bool) (seen : Image) (name image : List ℕ) (made_old made_new : List (List ℕ)) (old new : OpeningState S) → Takes limits name image (plain old) (plain new)
    → (IsTrue honest → seen ≡ Some image) → MakesAtMost name new.used made_old made_new → Visits limits honest seen name made_old made_new old new
Visits-read limits honest seen name image made_old made_new old new takes told made = record { image = image; takes = takes; told = λ is some. told is; made = made }

-- one slot was made, for a name whose stem is used
pub makes_one : (name stem : List ℕ) (used made made_new : List (List ℕ)) (before : List (List ℕ)) → made_new ≡ name ∷ made → IsRingName name stem → used ≡ before ++ stem ∷ [] → MakesAtMost name used made made_new
makes_one name stem used made made_new before is named last =
    subst (MakesAtMost name used made) (sym is) (one stem named (subst (λ l. Contains l stem) (sym last) (Contains-push before stem)))

differ : (image : Image) → image ≡ Some [] → image ≡ Some (0 ∷ []) → ⊥
differ image first second = let never : ⊥ = cc in never

-- a crash leaves only what was read from a slot that was made for a settled name and then settled
pub known_alone : (image got seen : Image) (folder before now : Image → Type 0) → Only image folder → LeavesNoMore folder before → (LeavesAnyBytes before ⊎ Only seen now) → got ≡ seen → Only got now
known_alone image got seen folder before now only fewer (inr settled) same left may = settled left may ∙ sym same
known_alone image got seen folder before now only fewer (inl any) same left may =
    absurd (differ image (sym (only (Some []) (fewer (Some []) (any [])))) (sym (only (Some (0 ∷ [])) (fewer (Some (0 ∷ [])) (any (0 ∷ []))))))

-- a slot that was made for a settled name and looked at is as it was found
pub found_there : {S : Type 0} (slot : Ghosts S) (fault : Type 0) (honest steady : Bool) (image there : Image) (folder : Image → Type 0) (made now : S)
    → slot.is_honest made ≡ honest → slot.is_steady made ≡ steady → (IsTrue honest → image ≡ there) → (IsTrue honest → Only there folder)
    → (IsTrue honest → slot.seen made ≡ there) → (IsTrue honest → LeavesNoMore folder (slot.may_leave made)) → (IsTrue honest → LeavesNoMore folder (slot.left_since made 0)) → (IsTrue honest → slot.temporary made ≡ Unknown)
    → KeepsNature slot.is_honest slot.is_steady slot.faults fault made now → OnlyLooks slot.seen slot.temporary slot.may_leave slot.is_honest made now
    → (IsTrue (slot.is_honest made) → LeavesOnly slot.moment slot.left_since made now (slot.may_leave made))
    → IsAsFound slot.seen slot.temporary slot.may_leave slot.left_since slot.is_honest slot.is_steady honest steady image now
found_there slot fault honest steady image there folder made now made_honest made_steady same only made_seen made_crash made_since made_temporary kept look since = record {
  as_honest = kept.honest ∙ made_honest;
  as_steady = kept.steady.same ∙ made_steady;
  same = λ is. look.same (was is) ∙ made_seen is ∙ sym (same is);
  crash = λ is left may. only is left (made_crash is left (look.crash (was is) left may)) ∙ sym (same is);
  any_moment = λ is left since_then. ⊎_elim
      (λ earlier. only is left (made_since is left earlier) ∙ sym (same is))
      (λ may. only is left (made_crash is left may) ∙ sym (same is))
      ((since (was is)).before 0 left (omega arith) since_then);
  untouched = λ is. look.same_temporary (was is) ∙ made_temporary is;
}
  where
    was : IsTrue honest → IsTrue (slot.is_honest made)
    was is = subst (λ b. IsTrue b) (sym made_honest) is

-- the same for another image, which is equal if the folder is honest
pub found_same : {S : Type 0} (seen : S → Image) (temporary : S → Temporary) (may_leave : S → Image → Type 0) (left_since : S → ℕ → Image → Type 0) (is_honest is_steady : S → Bool)
    (honest steady : Bool) (image later : Image) (slot : S) → (IsTrue honest → image ≡ later)
    → IsAsFound seen temporary may_leave left_since is_honest is_steady honest steady image slot
    → IsAsFound seen temporary may_leave left_since is_honest is_steady honest steady later slot
found_same seen temporary may_leave left_since is_honest is_steady honest steady image later slot same found = record {
  as_honest = found.as_honest;
  as_steady = found.as_steady;
  same = λ is. found.same is ∙ same is;
  crash = λ is left may. found.crash is left may ∙ same is;
  any_moment = λ is left since. found.any_moment is left since ∙ same is;
  untouched = found.untouched;
}

-- one more slot is returned
pub keeps_handed : {S : Type 0} (found : Image → S → Type 0) (images : List ℕ → Image) (made made_new : List (List ℕ)) (name stem : List ℕ) (slot : S) (old new : OpeningState S)
    → made_new ≡ name ∷ made → IsRingName name stem → found (images name) slot → HandsBack found images made old.rings old.left
    → Keeps stem slot old new → HandsBack found images made_new new.rings new.left
keeps_handed found images made made_new name stem slot old new is named as_found before (in_ring ring of_stem of_slot rings left) =
    subst (λ m. HandsBack found images m new.rings new.left) (sym is)
    (subst (λ r. HandsBack found images (name ∷ made) r new.left) (sym rings)
    (subst (λ l. HandsBack found images (name ∷ made) (old.rings ++ ring ∷ []) l) (sym left)
    (with_ring made old.rings old.left name ring before (subst (λ s. IsRingName name s) (sym of_stem) named) (subst (λ s. found (images name) s) (sym of_slot) as_found))))
keeps_handed found images made made_new name stem slot old new is named as_found before (by_itself file of_stem of_slot rings left) =
    subst (λ m. HandsBack found images m new.rings new.left) (sym is)
    (subst (λ r. HandsBack found images (name ∷ made) r new.left) (sym rings)
    (subst (λ l. HandsBack found images (name ∷ made) old.rings l) (sym left)
    (alone made old.rings old.left name file before (subst (λ s. IsRingName name s) (sym of_stem) named) (subst (λ s. found (images name) s) (sym of_slot) as_found))))

-- the load stops at a slot that was made for this name
pub stops_at : {S : Type 0} (found : Image → S → Type 0) (images : List ℕ → Image) (made made_new : List (List ℕ)) (name : List ℕ) (slot : S) (old new : OpeningState S)
    → made_new ≡ name ∷ made → IsLoadName name → found (images name) slot → HandsBack found images made old.rings old.left
    → StopsAt slot old new → ReturnsAll found images made_new new.rings new.left new.last
stops_at found images made made_new name slot old new is named as_found before stops =
    subst (λ m. ReturnsAll found images m new.rings new.left new.last) (sym is)
    (subst (λ s. ReturnsAll found images (name ∷ made) new.rings new.left s) (sym stops.last)
    (subst (λ r. ReturnsAll found images (name ∷ made) r new.left (Some slot)) (sym stops.rings)
    (subst (λ l. ReturnsAll found images (name ∷ made) old.rings l (Some slot)) (sym stops.left)
    (at_a_file made old.rings old.left name slot before named as_found))))

-- a slot at which the load stops is kept, and so are all others
pub stops_by : {S : Type 0} (slot : S) (old new : OpeningState S) → new ≡ record old { last = Some slot } → StopsAt slot old new
stops_by slot old new kept = record { last = ap (λ o. o.last) kept; rings = ap (λ o. o.rings) kept; left = ap (λ o. o.left) kept }

-- or before one was made
pub stops_before : {S : Type 0} (found : Image → S → Type 0) (images : List ℕ → Image) (made made_new : List (List ℕ)) (old new : OpeningState S)
    → made_new ≡ made → HandsBack found images made old.rings old.left → old.last ≡ None
    → new.rings ≡ old.rings → new.left ≡ old.left → new.last ≡ old.last → ReturnsAll found images made_new new.rings new.left new.last
stops_before found images made made_new old new is before no_slot rings left last =
    subst (λ m. ReturnsAll found images m new.rings new.left new.last) (sym is)
    (subst (λ s. ReturnsAll found images made new.rings new.left s) (sym (last ∙ no_slot))
    (subst (λ r. ReturnsAll found images made r new.left None) (sym rings)
    (subst (λ l. ReturnsAll found images made old.rings l None) (sym left)
    (between_files made old.rings old.left before))))

-- what holds whatever the result is
pub anyhow : {T E P : Type 0} (r : Result T E) → P → OnOk r P
anyhow (Ok x) p = p
anyhow (Err e) p = tt

pub whatever : {T E P : Type 0} (r : Result T E) → P → OnErr r P
whatever (Ok x) p = tt
whatever (Err e) p = p

-- a slot that was made for this name failed while its file was looked at
pub failed_slot : {S : Type 0} (found : Image → S → Type 0) (images : List ℕ → Image) (made before : List (List ℕ)) (faults : S → ℕ) (failed : S → Option DeviceCall) (is_steady : S → Bool) (steady : Bool) (name : List ℕ) (start slot : S)
    → made ≡ name ∷ before → found (images name) slot → faults start ≡ 0 → Rose (faults start) (faults slot) → IsLook (failed slot)
    → is_steady start ≡ steady → KeepsSteady (is_steady start) (is_steady slot) (faults start) (faults slot)
    → HasFailedSlot found images made faults failed steady
failed_slot found images made before faults failed is_steady steady name start slot is as_found fresh rose look steady_start keeps = record {
  name = name;
  slot = slot;
  here = subst (λ l. Contains l name) (sym is) (0, omega arith, refl);
  as_found = as_found;
  rose = subst (λ n. Rose n (faults slot)) fresh rose;
  look = look;
  unsteady = λ s.
      let same : faults slot ≡ faults start = keeps.still (subst (λ b. IsTrue b) (sym steady_start) s) in
      ⊎_elim (λ (more : faults start < faults slot). omega (arith, same, more)) (λ (last : faults slot ≡ last_count). omega (arith, same, fresh, last)) rose;
}

-- P holds of each element of a list of one element
alone_all : {X : Type 0} (P : X → Type 0) (x : X) → P x → All P (x ∷ [])
alone_all P x p = All-cons P x [] p (All-nil P)

module _ {S : Type 0} (failed : S → Option DeviceCall) (old new : OpeningState S) (none_failed : NoneFailed failed old.rings old.left old.last) where
  -- the slots are as before
  pub none_failed_same : new.rings ≡ old.rings → new.left ≡ old.left → new.last ≡ old.last → NoneFailed failed new.rings new.left new.last
  none_failed_same rings left last = record {
    listed = subst (λ r. All (λ ring. failed ring.cell.slot ≡ None) r) (sym rings) none_failed.listed;
    alone = subst (λ l. All (λ file. failed file.slot ≡ None) l) (sym left) none_failed.alone;
    last = subst (λ s. IfSome s (λ slot. failed slot ≡ None)) (sym last) none_failed.last;
  }

  -- one more that didn't fail is kept
  pub none_failed_kept : (stem : List ℕ) (slot : S) → failed slot ≡ None → Keeps stem slot old new → new.last ≡ old.last → NoneFailed failed new.rings new.left new.last
  none_failed_kept stem slot fine (in_ring ring of_stem of_slot rings left) last = record {
    listed = subst (λ r. All (λ ring. failed ring.cell.slot ≡ None) r) (sym rings)
        (All-append (λ (r : RingState S). failed r.cell.slot ≡ None) old.rings (ring ∷ []) none_failed.listed
        (alone_all (λ (r : RingState S). failed r.cell.slot ≡ None) ring (ap failed of_slot ∙ fine)));
    alone = subst (λ l. All (λ file. failed file.slot ≡ None) l) (sym left) none_failed.alone;
    last = subst (λ s. IfSome s (λ slot. failed slot ≡ None)) (sym last) none_failed.last;
  }
  none_failed_kept stem slot fine (by_itself file of_stem of_slot rings left) last = record {
    listed = subst (λ r. All (λ ring. failed ring.cell.slot ≡ None) r) (sym rings) none_failed.listed;
    alone = subst (λ l. All (λ file. failed file.slot ≡ None) l) (sym left)
        (All-append (λ (f : LeftAlone S). failed f.slot ≡ None) old.left (file ∷ []) none_failed.alone
        (alone_all (λ (f : LeftAlone S). failed f.slot ≡ None) file (ap failed of_slot ∙ fine)));
    last = subst (λ s. IfSome s (λ slot. failed slot ≡ None)) (sym last) none_failed.last;
  }

  -- the load stops at one that didn't fail
  pub none_failed_stopped : (slot : S) → failed slot ≡ None → StopsAt slot old new → NoneFailed failed new.rings new.left new.last
  none_failed_stopped slot fine stops = record {
    listed = subst (λ r. All (λ ring. failed ring.cell.slot ≡ None) r) (sym stops.rings) none_failed.listed;
    alone = subst (λ l. All (λ file. failed file.slot ≡ None) l) (sym stops.left) none_failed.alone;
    last = subst (λ s. IfSome s (λ slot. failed slot ≡ None)) (sym stops.last) fine;
  }
