use Rattle.std.proofs.Common.{refl}
use Rattle.folder_store.specs.Ring.{IsAsFound}
use Rattle.folder_store.proofs.VisitLemmas.{Visits-other, stops_before, whatever}
use Rattle.folder_store.proofs.loading.visit.Goals as goal

pub returns-in-None-clause-visited : goal.returns-in-None-clause-visited
returns-in-None-clause-visited g c =
    Visits-other c.args.limits.now _ _ c.args.name.now _ c.args.opening.now (rw c.in-None.is at c.in_ok-stem.ensures)

-- nothing was done yet
pub returns-in_err-stem-clause-returned : goal.returns-in_err-stem-clause-returned
returns-in_err-stem-clause-returned g c images same before no_slot =
    let folder = g.F.Folder in
    let slot = g.F.Cell.Slot in
    let old = c.args.folder.now in
    let found = IsAsFound slot.seen slot.temporary slot.may_leave slot.left_since slot.is_honest slot.is_steady (folder.is_honest old) (folder.is_steady old) in
    whatever _ (stops_before found images (folder.made old) (folder.made old) c.args.opening.now c.args.opening.now refl before no_slot refl refl refl)
