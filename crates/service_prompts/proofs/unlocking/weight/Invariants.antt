use Rattle.std.proofs.Common.{◌≡◌, ◌+◌, ◌≤◌, drop, min}
use Rattle.service_tables.specs.Targets.{weight}
use Rattle.service_prompts.proofs.unlocking.weight.Given as goal

-- the sum so far, and what the targets that are left weigh
abbrev pub invariant-loop-target : goal.invariant-loop-target
invariant-loop-target l =
    (min 18446744073709551615 (l.sum + weight (drop l.target-index l.targets)) ≡ min 18446744073709551615 (weight l.targets)) ×
    (l.sum ≤ 18446744073709551615)
