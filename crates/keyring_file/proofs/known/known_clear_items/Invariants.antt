use Rattle.std.proofs.Common.{take}
use Rattle.std.specs.List.{AllByRecursion}
use Rattle.keyring_file.specs.Known.{IsKnownClearItem}
use Rattle.keyring_file.proofs.known.known_clear_items.Given as goal

abbrev pub invariant-loop-item : goal.invariant-loop-item
invariant-loop-item l = AllByRecursion IsKnownClearItem (take l.item-index l.items)
