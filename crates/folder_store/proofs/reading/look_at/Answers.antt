use Rattle.std.proofs.Common.{IsTrue, IsErrOf, rules, refl, sym, ◌∙◌, subst}
use Rattle.kr_outside.specs.RenameDisk.{Image}
use Rattle.folder_store.specs.declared.refused.LoadRefused.TheVariants.{Folder}
use Rattle.folder_store.specs.Ring.{IsAsFound}
use Rattle.folder_store.specs.Walk.{Looks}
use Rattle.folder_store.proofs.VisitLemmas.{failed_slot, found_there, stops_at, stops_before, stops_by, whatever}
use Rattle.folder_store.proofs.reading.look_at.Goals as goal

-- the slot was made, its file was settled and read, and nothing else was done with it
pub returns-in-Ok-clause-found : goal.returns-in-Ok-clause-found
returns-in-Ok-clause-found g c image same =
    let folder = g.F.Folder in
    let slot = g.F.Cell.Slot in
    let old = c.args.folder.now in
    let name = c.args.name.now in
    let made = c.in_ok-slot.ensures in
    let read = c.read_settled.ensures in
    found_there slot _ (folder.is_honest old) (folder.is_steady old) image (folder.images old name) (folder.may_leave old name) c.in_ok-slot.slot c.read_settled.new.slot
    made.honest_slot made.steady_slot same (λ is. (c.requires.settled is).1)
    (λ is. made.seen is (c.requires.settled is).0) (λ is. made.crash is (c.requires.settled is).0) (λ is. made.any_moment is (c.requires.settled is).0) made.temporary
    read.kept read.look read.any_moment

-- what was read is what the name stands for
pub returns-in-Ok-clause-looked : goal.returns-in-Ok-clause-looked
returns-in-Ok-clause-looked g c honest =
    let slot = g.F.Cell.Slot in
    let made = c.in_ok-slot.ensures in
    let is : IsTrue (slot.is_honest c.in_ok-slot.slot) = subst (λ b. IsTrue b) (sym made.honest_slot) honest in
    subst (λ (i : Image). Looks c.args.most i c.in-Ok.look) (c.read_settled.ensures.look.same is ∙ made.seen honest (c.requires.settled honest).0) (c.in-Ok.ensures.read is)

-- no slot was made
pub returns-in_err-slot-clause-returned : goal.returns-in_err-slot-clause-returned
returns-in_err-slot-clause-returned g c images same named before no_slot =
    let folder = g.F.Folder in
    let slot = g.F.Cell.Slot in
    let old = c.args.folder.now in
    let found = IsAsFound slot.seen slot.temporary slot.may_leave slot.left_since slot.is_honest slot.is_steady (folder.is_honest old) (folder.is_steady old) in
    whatever _ (stops_before found images (folder.made old) _ c.args.opening.now c.args.opening.now c.in_err-slot.ensures.made_none before no_slot refl refl refl)

-- the slot that was made is kept
pub returns-in-Err-clause-returned : goal.returns-in-Err-clause-returned
returns-in-Err-clause-returned g c images same named before no_slot =
    let folder = g.F.Folder in
    let slot = g.F.Cell.Slot in
    let old = c.args.folder.now in
    let name = c.args.name.now in
    let made = c.in_ok-slot.ensures in
    let read = c.read_settled.ensures in
    let found = IsAsFound slot.seen slot.temporary slot.may_leave slot.left_since slot.is_honest slot.is_steady (folder.is_honest old) (folder.is_steady old) in
    let as_found = found_there slot _ (folder.is_honest old) (folder.is_steady old) (images name) (folder.images old name) (folder.may_leave old name) c.in_ok-slot.slot c.read_settled.new.slot
    made.honest_slot made.steady_slot same (λ is. (c.requires.settled is).1)
    (λ is. made.seen is (c.requires.settled is).0) (λ is. made.crash is (c.requires.settled is).0) (λ is. made.any_moment is (c.requires.settled is).0) made.temporary
    read.kept read.look read.any_moment in
    stops_at found images (folder.made old) _ name c.read_settled.new.slot c.args.opening.now c.stop.new.self made.made named as_found before
    (stops_by c.read_settled.new.slot c.args.opening.now c.stop.new.self c.stop.ensures.kept)

-- the slot that failed was only looked at
pub returns-in-Err-clause-cause : goal.returns-in-Err-clause-cause
returns-in-Err-clause-cause g c images same is =
    let folder = g.F.Folder in
    let slot = g.F.Cell.Slot in
    let old = c.args.folder.now in
    let name = c.args.name.now in
    let made = c.in_ok-slot.ensures in
    let read = c.read_settled.ensures in
    let found = IsAsFound slot.seen slot.temporary slot.may_leave slot.left_since slot.is_honest slot.is_steady (folder.is_honest old) (folder.is_steady old) in
    let as_found = found_there slot _ (folder.is_honest old) (folder.is_steady old) (images name) (folder.images old name) (folder.may_leave old name) c.in_ok-slot.slot c.read_settled.new.slot
    made.honest_slot made.steady_slot same (λ is. (c.requires.settled is).1)
    (λ is. made.seen is (c.requires.settled is).0) (λ is. made.crash is (c.requires.settled is).0) (λ is. made.any_moment is (c.requires.settled is).0) made.temporary
    read.kept read.look read.any_moment in
    let failed : IsErrOf c.read_settled.result Folder = search rules in
    failed_slot found images _ (folder.made old) slot.faults slot.failed slot.is_steady (folder.is_steady old) name c.in_ok-slot.slot c.read_settled.new.slot
    made.made as_found made.fresh (read.kept.cause failed) (read.call failed) made.steady_slot read.kept.steady
