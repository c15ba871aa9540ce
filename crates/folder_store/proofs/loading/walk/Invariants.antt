use Rattle.std.proofs.Common.{◌≡◌, ℕ, List, IsTrue, None, take}
use Rattle.kr_outside.specs.Folder.{Stays}
use Rattle.kr_outside.specs.RenameDisk.{Image}
use Rattle.folder_store.specs.Ring.{IsAsFound, HandsBack, NoneFailed}
use Rattle.folder_store.specs.Walk.{Walk, plain}
use Rattle.folder_store.proofs.loading.walk.Given as goal

-- the names gone through so far
abbrev pub invariant-loop-name : goal.invariant-loop-name
invariant-loop-name g l =
    let folder = g.F.Folder in
    let slot = g.F.Cell.Slot in
    Walk l.limits (folder.is_honest l.fn.folder) folder.images folder.may_leave folder.made l.fn.folder l.folder (take l.name-index l.names) (plain l.opening)
    × ((images : List ℕ → Image) → (IsTrue (folder.is_honest l.fn.folder) → (name : List ℕ) → images name ≡ folder.images l.fn.folder name)
    → HandsBack (IsAsFound slot.seen slot.temporary slot.may_leave slot.left_since slot.is_honest slot.is_steady (folder.is_honest l.fn.folder) (folder.is_steady l.fn.folder)) images (folder.made l.folder) l.opening.rings l.opening.left)
    × (folder.is_honest l.folder ≡ folder.is_honest l.fn.folder)
    × (folder.is_steady l.folder ≡ folder.is_steady l.fn.folder)
    × (folder.faults l.folder ≡ folder.faults l.fn.folder)
    × (IsTrue (folder.is_honest l.fn.folder) → Stays folder.images folder.may_leave (folder.made l.folder) l.fn.folder l.folder)
    × (l.opening.last ≡ None)
    × (NoneFailed slot.failed l.fn.opening.rings l.fn.opening.left l.fn.opening.last → NoneFailed slot.failed l.opening.rings l.opening.left l.opening.last)
