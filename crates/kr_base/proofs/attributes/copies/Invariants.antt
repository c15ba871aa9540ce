use Rattle.std.proofs.Common.{◌≡◌, take}
use Rattle.kr_base.proofs.attributes.copies.Given as goal

abbrev pub invariant-loop-name : goal.invariant-loop-name
invariant-loop-name l = l.copied.items ≡ take l.name-index l.pairs
