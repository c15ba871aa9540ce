use Rattle.std.proofs.Common.{[], length}
use Rattle.service_hub.proofs.GatherLemmas.{GatheredSoFar}
use Rattle.service_hub.proofs.links.gather_all.Given as goal

-- the passes of the last connections were gathered
abbrev pub invariant-loop-served : goal.invariant-loop-served
invariant-loop-served g l = GatheredSoFar l.initial.pass l.pass l.initial.done.items l.done.items []

-- each turn takes one connection
abbrev pub decreases-loop-served : goal.decreases-loop-served
decreases-loop-served g l = length l.done.items
