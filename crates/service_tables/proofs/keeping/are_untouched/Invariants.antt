use Rattle.std.proofs.Common.{ℕ, List, None, take}
use Rattle.std.specs.List.{AllByRecursion}
use Rattle.replace_slot.specs.Cell.{Known}
use Rattle.service_tables.specs.Slots.{LeavesKnown}
use Rattle.service_tables.proofs.keeping.are_untouched.Given as goal

-- a crash leaves no file of the slots so far
abbrev pub invariant-loop-kept : goal.invariant-loop-kept
invariant-loop-kept g l =
    let slot = g.S.Slot in
    AllByRecursion (λ (kept : List ℕ × _). LeavesKnown slot.is_honest slot.moment slot.left_since (Known None) kept.1) (take l.kept-index l.spare)
