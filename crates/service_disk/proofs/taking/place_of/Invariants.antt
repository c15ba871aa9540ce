use Rattle.service_disk.proofs.TakingLemmas.{IsPast}
use Rattle.service_disk.proofs.taking.place_of.Given as goal

abbrev pub invariant-loop-place : goal.invariant-loop-place
invariant-loop-place g l = IsPast l.stem l.spare l.place
