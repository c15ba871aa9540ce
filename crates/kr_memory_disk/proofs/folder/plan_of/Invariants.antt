use Rattle.std.proofs.Common.{◌≡◌, length}
use Rattle.kr_memory_disk.specs.Folder.{failing_of, done_of}
use Rattle.kr_memory_disk.proofs.folder.plan_of.Given as goal

-- the plans so far don't have this name
abbrev pub invariant-loop-rest : goal.invariant-loop-rest
invariant-loop-rest l = (failing_of l.rest l.name ≡ failing_of l.plans l.name) × (done_of l.rest l.name ≡ done_of l.plans l.name)

abbrev pub decreases-loop-rest : goal.decreases-loop-rest
decreases-loop-rest l = length l.rest
