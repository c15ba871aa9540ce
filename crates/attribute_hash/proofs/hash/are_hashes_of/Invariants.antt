use Rattle.std.proofs.Common.{◌≡◌, take}
use Rattle.attribute_hash.specs.Hash.{hashes}
use Rattle.attribute_hash.proofs.hash.are_hashes_of.Given as goal

-- the hashes so far are those of the attributes
abbrev pub invariant-loop-place : goal.invariant-loop-place
invariant-loop-place l = take l.place l.found ≡ take l.place (hashes l.pairs)
