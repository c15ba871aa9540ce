use Rattle.std.proofs.Common.{rules, sym, subst}
use Rattle.folder_store.specs.Ring.{IsAsFound, ReturnsAll}
use Rattle.folder_store.proofs.loading.load_within.Goals as goal

-- the slots that were kept are returned
pub returns-in-Err-clause-returned : goal.returns-in-Err-clause-returned
returns-in-Err-clause-returned g c =
    let folder = g.F.Folder in
    let slot = g.F.Cell.Slot in
    let zero = c.args.folder.now in
    let images = folder.images zero in
    let made = folder.made c.load_into.new.folder in
    let opening = c.load_into.new.opening in
    let found = IsAsFound slot.seen slot.temporary slot.may_leave slot.left_since slot.is_honest slot.is_steady (folder.is_honest zero) (folder.is_steady zero) in
    let refusal = c.into_refusal.result in
    subst (λ r. ReturnsAll found images made r refusal.left_alone.items refusal.last) (sym c.into_refusal.ensures.rings)
    (subst (λ l. ReturnsAll found images made opening.rings l refusal.last) (sym c.into_refusal.ensures.left)
    (subst (λ s. ReturnsAll found images made opening.rings opening.left s) (sym c.into_refusal.ensures.last) c.in-Err.ensures.returned))

-- with the cause
pub returns-in-Err-clause-cause : goal.returns-in-Err-clause-cause
returns-in-Err-clause-cause g c is = c.load_into.ensures.cause (search rules)

pub returns-in-Err-clause-never : goal.returns-in-Err-clause-never
returns-in-Err-clause-never g c steady is = c.load_into.ensures.never steady (search rules)
