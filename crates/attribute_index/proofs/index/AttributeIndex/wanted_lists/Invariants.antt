use Rattle.std.proofs.Common.{◌≡◌, map, take}
use Rattle.attribute_index.specs.Index.{wanted_lists}
use Rattle.attribute_index.proofs.index.AttributeIndex.wanted_lists.Given as goal

abbrev pub invariant-loop-name : goal.invariant-loop-name
invariant-loop-name l = map (λ x. x.now) l.lists.items ≡ wanted_lists l.self (take l.name-index l.wanted)
