use Rattle.std.proofs.Common.{take}
use Rattle.std.specs.List.{AllByRecursion}
use Rattle.replace_slot.specs.Cell.{IsKnown}
use Rattle.folder_store.specs.Ring.{RingState}
use Rattle.service_tables.proofs.disk.are_known.Given as goal

-- the files so far are known
abbrev pub invariant-loop-ring : goal.invariant-loop-ring
invariant-loop-ring g l = AllByRecursion (λ (ring : RingState _). IsKnown ring.cell.file) (take l.ring-index l.rings)
