use Rattle.kr_memory_disk.proofs.PlaceLemmas.{StandsBefore}
use Rattle.kr_memory_disk.proofs.place.standing_of.Given as goal

-- the places after the calls so far
abbrev pub invariant-loop-number : goal.invariant-loop-number
invariant-loop-number l = StandsBefore l.calls l.number l.standing
