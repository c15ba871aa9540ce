use Rattle.std.proofs.Common.{take}
use Rattle.keyring_file.specs.Numbers.{IsGathered}
use Rattle.keyring_file.proofs.numbers.set_of.Given as goal

abbrev pub invariant-loop-item : goal.invariant-loop-item
invariant-loop-item l = IsGathered (take l.item-index l.items) l.ids.keys
