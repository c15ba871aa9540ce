use Rattle.std.proofs.Common.{◌≡◌, take, true}
use Rattle.attribute_match.specs.Match.{is_equal}
use Rattle.attribute_match.proofs.matching.is_equal.Given as goal

abbrev pub invariant-loop-place : goal.invariant-loop-place
invariant-loop-place l = is_equal (take l.place l.pairs) (take l.place l.others) ≡ true
