use Rattle.std.proofs.Common.{◌≡◌, ◌<◌, OnOk, IsTrue, Some, inr, length, refl, sym, ap, subst, ◌∙◌, arith}
use Rattle.std.proofs.lemmas.Result.{on_ok_weaker, on_err_weaker}
use Rattle.folder_store.specs.Opened.{Fits}
use Rattle.folder_store.specs.Ring.{IsAsFound, HandsBack, rows_of}
use Rattle.folder_store.specs.Walk.{none, by_itself, Visits}
use Rattle.folder_store.proofs.OpeningLemmas.{both}
use Rattle.folder_store.proofs.VisitLemmas.{Visits-left, Visits-read, makes_one, keeps_handed, stops_at, stops_before, whatever, anyhow}
use Rattle.folder_store.proofs.loading.take_file.Goals as goal

-- no more files can be listed
pub returns-in_default-clause-visited : goal.returns-in_default-clause-visited
returns-in_default-clause-visited g c =
    on_ok_weaker c.leave.result
    (λ left. Visits-left c.args.limits.now c.args.name.now c.args.stem _ _ c.args.opening.now c.leave.new.self c.requires.named left _ _ none
    (λ honest bytes is clear fits. c.in_default.ensures.none refl clear bytes fits))
    c.leave.ensures.left

pub returns-in_default-clause-returned : goal.returns-in_default-clause-returned
returns-in_default-clause-returned g c images same before no_slot =
    let folder = g.F.Folder in
    let slot = g.F.Cell.Slot in
    let old = c.args.folder.now in
    let found = IsAsFound slot.seen slot.temporary slot.may_leave slot.left_since slot.is_honest slot.is_steady (folder.is_honest old) (folder.is_steady old) in
    whatever c.leave.result
    (stops_before found images (folder.made old) (folder.made old) c.args.opening.now c.leave.new.self refl before no_slot c.leave.ensures.rings c.leave.ensures.slots c.leave.ensures.last)

-- the slot failed, or wasn't made
pub returns-in_err-slot-clause-returned : goal.returns-in_err-slot-clause-returned
returns-in_err-slot-clause-returned g c images same before no_slot = whatever _ (c.in_err-slot.ensures.returned images same (inr (c.args.stem, c.requires.named)) before no_slot)

pub take-requires : goal.take-requires
take-requires g c honest left may =
    let here = c.in_ok-slot.ensures.found (g.F.Folder.images c.args.folder.now c.args.name.now) (λ _. refl) in
    let is : IsTrue (g.F.Folder.is_honest c.args.folder.now) = subst (λ b. IsTrue b) here.as_honest honest in
    let read : g.F.Folder.images c.args.folder.now c.args.name.now ≡ Some c.in-Some-into_bytes.image.items =
    rw c.in-Some-into_bytes.is at (c.into_bytes.ensures c.in-Some.room (g.F.Folder.images c.args.folder.now c.args.name.now) (c.in_ok-slot.ensures.looked is)) in
    here.crash is left may ∙ read

pub returns-in-Some-into_bytes-clause-visited : goal.returns-in-Some-into_bytes-clause-visited
returns-in-Some-into_bytes-clause-visited g c =
    let opening = c.in_ok-slot.ensures.opening in
    subst (λ o. OnOk c.take.result (Visits c.args.limits.now (g.F.Folder.is_honest c.args.folder.now) (g.F.Folder.images c.args.folder.now c.args.name.now) c.args.name.now (g.F.Folder.made c.args.folder.now) (g.F.Folder.made c.look_at.new.folder) o c.take.new.self)) opening
    (both c.take.result
    (λ takes used. Visits-read c.args.limits.now _ _ c.args.name.now c.in-Some-into_bytes.image.items _ _ c.look_at.new.opening c.take.new.self takes
    (λ honest. rw c.in-Some-into_bytes.is at (c.into_bytes.ensures c.in-Some.room (g.F.Folder.images c.args.folder.now c.args.name.now) (c.in_ok-slot.ensures.looked honest)))
    (makes_one c.args.name.now c.args.stem c.take.new.self.used _ _ c.look_at.new.opening.used c.in_ok-slot.ensures.made c.requires.named used))
    (c.take.ensures.taken c.args.name.now c.requires.named) c.take.ensures.used)

-- there is no file that short
pub returns-in-None-clause-visited : goal.returns-in-None-clause-visited
returns-in-None-clause-visited g c =
    let opening = c.in_ok-slot.ensures.opening in
    subst (λ o. OnOk c.leave_slot.result (Visits c.args.limits.now (g.F.Folder.is_honest c.args.folder.now) (g.F.Folder.images c.args.folder.now c.args.name.now) c.args.name.now (g.F.Folder.made c.args.folder.now) (g.F.Folder.made c.look_at.new.folder) o c.leave_slot.new.self)) opening
    (on_ok_weaker c.leave_slot.result
    (λ left. Visits-left c.args.limits.now c.args.name.now c.args.stem _ _ c.look_at.new.opening c.leave_slot.new.self c.requires.named left _ _
    (makes_one c.args.name.now c.args.stem c.leave_slot.new.self.used _ _ c.look_at.new.opening.used c.in_ok-slot.ensures.made c.requires.named (ap (λ o. o.used) left))
    (λ honest bytes is clear fits.
    let long : c.in-Some.room < length bytes = (rw c.in-None.is at (c.into_bytes.ensures c.in-Some.room (g.F.Folder.images c.args.folder.now c.args.name.now) (c.in_ok-slot.ensures.looked honest))) bytes is in
    let short = c.in-Some.ensures.some clear bytes (subst (λ o. Fits c.args.limits.now (rows_of o.rings) clear bytes) opening fits) in
    absurd (omega (arith, long, short))))
    c.leave_slot.ensures.left)

-- the slot was settled and read, and is kept
pub returns-in-Some-into_bytes-clause-handed : goal.returns-in-Some-into_bytes-clause-handed
returns-in-Some-into_bytes-clause-handed g c images same before =
    let folder = g.F.Folder in
    let slot = g.F.Cell.Slot in
    let old = c.args.folder.now in
    let name = c.args.name.now in
    let found = IsAsFound slot.seen slot.temporary slot.may_leave slot.left_since slot.is_honest slot.is_steady (folder.is_honest old) (folder.is_steady old) in
    let before_take = subst (λ o. HandsBack found images (folder.made old) o.rings o.left) (sym c.in_ok-slot.ensures.opening) before in
    on_ok_weaker c.take.result
    (λ kept. keeps_handed found images (folder.made old) _ name c.args.stem c.in_ok-slot.slot c.look_at.new.opening c.take.new.self c.in_ok-slot.ensures.made c.requires.named (c.in_ok-slot.ensures.found (images name) same) before_take kept)
    c.take.ensures.kept

pub returns-in-None-clause-handed : goal.returns-in-None-clause-handed
returns-in-None-clause-handed g c images same before =
    let folder = g.F.Folder in
    let slot = g.F.Cell.Slot in
    let old = c.args.folder.now in
    let name = c.args.name.now in
    let found = IsAsFound slot.seen slot.temporary slot.may_leave slot.left_since slot.is_honest slot.is_steady (folder.is_honest old) (folder.is_steady old) in
    let before_leave = subst (λ o. HandsBack found images (folder.made old) o.rings o.left) (sym c.in_ok-slot.ensures.opening) before in
    on_ok_weaker c.leave_slot.result
    (λ left. keeps_handed found images (folder.made old) _ name c.args.stem c.in_ok-slot.slot c.look_at.new.opening c.leave_slot.new.self c.in_ok-slot.ensures.made c.requires.named (c.in_ok-slot.ensures.found (images name) same) before_leave
    (by_itself (record { stem = c.args.stem; slot = c.in_ok-slot.slot }) refl refl c.leave_slot.ensures.rings left))
    c.leave_slot.ensures.slots

-- or is the one at which the load stops
pub returns-in-Some-into_bytes-clause-returned : goal.returns-in-Some-into_bytes-clause-returned
returns-in-Some-into_bytes-clause-returned g c images same before no_slot =
    let folder = g.F.Folder in
    let slot = g.F.Cell.Slot in
    let old = c.args.folder.now in
    let name = c.args.name.now in
    let found = IsAsFound slot.seen slot.temporary slot.may_leave slot.left_since slot.is_honest slot.is_steady (folder.is_honest old) (folder.is_steady old) in
    let before_take = subst (λ o. HandsBack found images (folder.made old) o.rings o.left) (sym c.in_ok-slot.ensures.opening) before in
    on_err_weaker c.take.result
    (λ stops. stops_at found images (folder.made old) _ name c.in_ok-slot.slot c.look_at.new.opening c.take.new.self c.in_ok-slot.ensures.made (inr (c.args.stem, c.requires.named)) (c.in_ok-slot.ensures.found (images name) same) before_take stops)
    c.take.ensures.stopped

pub returns-in-None-clause-returned : goal.returns-in-None-clause-returned
returns-in-None-clause-returned g c images same before no_slot =
    let folder = g.F.Folder in
    let slot = g.F.Cell.Slot in
    let old = c.args.folder.now in
    let name = c.args.name.now in
    let found = IsAsFound slot.seen slot.temporary slot.may_leave slot.left_since slot.is_honest slot.is_steady (folder.is_honest old) (folder.is_steady old) in
    let before_leave = subst (λ o. HandsBack found images (folder.made old) o.rings o.left) (sym c.in_ok-slot.ensures.opening) before in
    on_err_weaker c.leave_slot.result
    (λ stops. stops_at found images (folder.made old) _ name c.in_ok-slot.slot c.look_at.new.opening c.leave_slot.new.self c.in_ok-slot.ensures.made (inr (c.args.stem, c.requires.named)) (c.in_ok-slot.ensures.found (images name) same) before_leave stops)
    c.leave_slot.ensures.stopped

-- no slot is kept unless the load stops
pub returns-in_default-clause-last : goal.returns-in_default-clause-last
returns-in_default-clause-last g c = anyhow c.leave.result c.leave.ensures.last

pub returns-in-Some-into_bytes-clause-last : goal.returns-in-Some-into_bytes-clause-last
returns-in-Some-into_bytes-clause-last g c = on_ok_weaker c.take.result (λ last. last ∙ ap (λ o. o.last) c.in_ok-slot.ensures.opening) c.take.ensures.last

pub returns-in-None-clause-last : goal.returns-in-None-clause-last
returns-in-None-clause-last g c = on_ok_weaker c.leave_slot.result (λ last. last ∙ ap (λ o. o.last) c.in_ok-slot.ensures.opening) c.leave_slot.ensures.last
