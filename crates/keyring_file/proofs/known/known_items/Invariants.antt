use Rattle.std.proofs.Common.{take}
use Rattle.std.specs.List.{AllByRecursion}
use Rattle.keyring_file.specs.Known.{IsKnownItem}
use Rattle.keyring_file.proofs.known.known_items.Given as goal

abbrev pub invariant-loop-item : goal.invariant-loop-item
invariant-loop-item l = AllByRecursion IsKnownItem (take l.item-index l.items)
