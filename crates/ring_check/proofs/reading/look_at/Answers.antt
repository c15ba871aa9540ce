use Rattle.std.proofs.Common.{◌≡◌, ℕ, List, [], ◌∷◌, ◌++◌, Contains, IsTrue, refl, sym, ◌∙◌, ap, subst}
use Rattle.kr_outside.specs.RenameDisk.{LeavesNoMore}
use Rattle.ring_check.proofs.LookLemmas.{looks_nothing, looks_once, untouched_there, failed_last}
use Rattle.ring_check.specs.declared.reading.Looked.{Looked}
use Rattle.ring_check.proofs.reading.look_at.Goals as goal

pub returns-in_err-reserve-clause-looks : goal.returns-in_err-reserve-clause-looks
returns-in_err-reserve-clause-looks g c = looks_nothing _ _ _ _ _ _ refl c.reserve.ensures.items

pub returns-in_err-label-clause-looks : goal.returns-in_err-label-clause-looks
returns-in_err-label-clause-looks g c = looks_nothing _ _ _ _ _ _ refl c.reserve.ensures.items

pub returns-in_err-slot-clause-looks : goal.returns-in_err-slot-clause-looks
returns-in_err-slot-clause-looks g c = looks_nothing _ _ _ _ _ _ c.in_err-slot.ensures.made_none c.reserve.ensures.items

-- the slot was made, its file was measured and read, and nothing else was done with it
pub returns-clause-looks : goal.returns-clause-looks
returns-clause-looks g c =
    let folder = g.F.Folder in
    let slot = g.F.Cell.Slot in
    let old = c.args.folder.now in
    let made = c.in_ok-slot.ensures in
    let read = c.read_file-found.ensures in
    let named = c.as_str.ensures.value in
    let one : Looked g.row.F-Cell.Denot = record { name = c.in_ok-label.label; slot = c.read_file-found.new.slot } in
    let fresh : IsTrue (folder.is_honest old) → ¬ (Contains (folder.made old) c.as_str.result.now) =
    λ is. subst (λ n. ¬ (Contains (folder.made old) n)) (sym named) (c.requires.fresh is) in
    looks_once _ _ _ _ _ _ one
    (made.made ∙ ap (λ n. n ∷ folder.made old) named)
    ((rw c.unwrap.ensures at c.push.ensures.items) ∙ ap (λ l. l ++ one ∷ []) c.reserve.ensures.items)
    c.in_ok-label.ensures
    (untouched_there slot _ (folder.is_honest old) (folder.is_steady old) _ _ c.in_ok-slot.slot c.read_file-found.new.slot
    made.honest_slot made.steady_slot (λ is. made.seen is (fresh is) ∙ ap (folder.images old) named)
    (λ is. subst (λ n. LeavesNoMore (folder.may_leave old n) (slot.may_leave c.in_ok-slot.slot)) named (made.crash is (fresh is)))
    made.temporary read.kept read.look)

-- the slot that failed is the last one
pub returns-clause-cause : goal.returns-clause-cause
returns-clause-cause g c failed =
    let slot = g.F.Cell.Slot in
    let made = c.in_ok-slot.ensures in
    let read = c.read_file-found.ensures in
    let one : Looked g.row.F-Cell.Denot = record { name = c.in_ok-label.label; slot = c.read_file-found.new.slot } in
    failed_last slot.faults slot.is_steady _ c.args.looked.now.items _ one c.in_ok-slot.slot
    ((rw c.unwrap.ensures at c.push.ensures.items) ∙ ap (λ l. l ++ one ∷ []) c.reserve.ensures.items)
    made.fresh (read.kept.cause failed) made.steady_slot read.kept.steady
