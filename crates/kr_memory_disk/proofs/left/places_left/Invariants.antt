use Rattle.kr_memory_disk.proofs.LeftLemmas.{LieBefore}
use Rattle.kr_memory_disk.proofs.left.places_left.Given as goal

-- the places of the images after the calls so far, without what the name stands for
abbrev pub invariant-loop-number : goal.invariant-loop-number
invariant-loop-number l = LieBefore l.calls l.number l.standing l.places.items
