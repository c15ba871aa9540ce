use Rattle.std.proofs.Common.{IsTrue, rules, inl, refl, subst, sym}
use Rattle.folder_store.specs.Names.{aliases}
use Rattle.kr_outside.specs.RenameDisk.{Image, Only}
use Rattle.alias_text.specs.Pairs.{longest}
use Rattle.folder_store.specs.Aliases.{AreFound}
use Rattle.folder_store.specs.Ring.{IsAsFound}
use Rattle.folder_store.specs.Walk.{Looks, StopsAt}
use Rattle.folder_store.proofs.LoadLemmas.{found_same_aliases}
use Rattle.folder_store.proofs.VisitLemmas.{stops_at, stops_by, whatever}
use Rattle.folder_store.proofs.loading.load_aliases.Goals as goal

pub look_at-requires : goal.look_at-requires
unfolding aliases
look_at-requires g c = record { settled = c.requires.settled }

pub found_by-requires : goal.found_by-requires
unfolding aliases
found_by-requires g c =
    let here = c.in_ok-slot.ensures.found (g.F.Folder.images c.args.folder.now aliases) (λ _. refl) in
    record {
      looked = λ honest.
          let is : IsTrue (g.F.Folder.is_honest c.args.folder.now) = subst (λ b. IsTrue b) here.as_honest honest in
          subst (λ (i : Image). Looks longest i c.in_ok-slot.look) (sym (here.same is)) (c.in_ok-slot.ensures.looked is);
      settled = λ honest.
          let is : IsTrue (g.F.Folder.is_honest c.args.folder.now) = subst (λ b. IsTrue b) here.as_honest honest in
          subst (λ (i : Image). Only i (g.F.Cell.Slot.may_leave c.in_ok-slot.slot)) (sym (here.same is)) (here.crash is);
    }

-- what was found of the slot's image was found of the folder's
pub returns-in-Ok-clause-found : goal.returns-in-Ok-clause-found
unfolding aliases
returns-in-Ok-clause-found g c =
    let slot = g.F.Cell.Slot in
    let here = c.in_ok-slot.ensures.found (g.F.Folder.images c.args.folder.now aliases) (λ _. refl) in
    found_same_aliases (g.F.Folder.is_honest c.args.folder.now) (slot.seen c.in_ok-slot.slot) (g.F.Folder.images c.args.folder.now aliases) c.in-Ok.found
    (λ honest. here.same honest)
    (subst (λ b. AreFound b (slot.seen c.in_ok-slot.slot) c.in-Ok.found) here.as_honest c.in-Ok.ensures.found)

pub returns-in-Ok-clause-slot : goal.returns-in-Ok-clause-slot
unfolding aliases
returns-in-Ok-clause-slot g c =
    let folder = g.F.Folder in
    let slot = g.F.Cell.Slot in
    let old = c.args.folder.now in
    subst (λ s. IsAsFound slot.seen slot.temporary slot.may_leave slot.left_since slot.is_honest slot.is_steady (folder.is_honest old) (folder.is_steady old) (folder.images old aliases) s)
    (sym c.in-Ok.ensures.slot) (c.in_ok-slot.ensures.found (folder.images old aliases) (λ _. refl))

-- the slot comes back from the aliases for which there was no memory
pub returns-in-Err-clause-returned : goal.returns-in-Err-clause-returned
unfolding aliases
returns-in-Err-clause-returned g c images same before no_slot =
    let folder = g.F.Folder in
    let slot = g.F.Cell.Slot in
    let old = c.args.folder.now in
    let found = IsAsFound slot.seen slot.temporary slot.may_leave slot.left_since slot.is_honest slot.is_steady (folder.is_honest old) (folder.is_steady old) in
    let opening = c.in_ok-slot.ensures.opening in
    let as_found = subst (λ s. found (images aliases) s) (sym c.in-Err.ensures.returned) (c.in_ok-slot.ensures.found (images aliases) same) in
    stops_at found images (folder.made old) _ aliases c.in-Err.failed.value c.args.opening.now c.stop.new.self c.in_ok-slot.ensures.made (inl refl) as_found before
    (subst (λ o. StopsAt c.in-Err.failed.value o c.stop.new.self) opening (stops_by c.in-Err.failed.value c.look_at.new.opening c.stop.new.self c.stop.ensures.kept))

-- the slot failed, or wasn't made
pub returns-in_err-slot-clause-returned : goal.returns-in_err-slot-clause-returned
unfolding aliases
returns-in_err-slot-clause-returned g c images same before no_slot = whatever _ (c.in_err-slot.ensures.returned images same (inl refl) before no_slot)

pub returns-in_err-slot-clause-cause : goal.returns-in_err-slot-clause-cause
unfolding aliases
returns-in_err-slot-clause-cause g c images same is = c.look_at.ensures.cause images same (search rules)

-- one slot was made, if any
pub returns-in_err-slot-clause-one : goal.returns-in_err-slot-clause-one
unfolding aliases
returns-in_err-slot-clause-one g c = c.in_err-slot.ensures.one

pub returns-in-Ok-clause-made : goal.returns-in-Ok-clause-made
unfolding aliases
returns-in-Ok-clause-made g c = c.in_ok-slot.ensures.made

pub returns-in-Ok-clause-one : goal.returns-in-Ok-clause-one
unfolding aliases
returns-in-Ok-clause-one g c = c.in_ok-slot.ensures.one

pub returns-in-Err-clause-one : goal.returns-in-Err-clause-one
unfolding aliases
returns-in-Err-clause-one g c = c.in_ok-slot.ensures.one
