use Rattle.std.proofs.Common.{◌≡◌, take}
use Rattle.service_prompts.specs.Unlocking.{given_of}
use Rattle.service_prompts.proofs.completing.given_of.Given as goal

-- the paths of the targets so far
abbrev pub invariant-loop-target : goal.invariant-loop-target
invariant-loop-target l = l.paths.items ≡ given_of (take l.target-index l.targets)
