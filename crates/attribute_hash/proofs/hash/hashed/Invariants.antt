use Rattle.std.proofs.Common.{◌≡◌, take}
use Rattle.attribute_hash.specs.Hash.{hashes}
use Rattle.attribute_hash.proofs.hash.hashed.Given as goal

abbrev pub invariant-loop-name : goal.invariant-loop-name
invariant-loop-name l = l.hashed.items ≡ hashes (take l.name-index l.attributes)
