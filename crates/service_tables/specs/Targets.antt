-- What the targets of a prompt weigh: a bound on the length of the list of their paths in the signal Completed (docs/SERVICE.md, "Limits").
use Rattle.std.specs.Prelude.{ℕ, ◌+◌, Bool, nat_le, List, length}
use Rattle.std.specs.List.{sum_by}
use Rattle.prompt_state.specs.declared.targets.Target.{Target}
use Rattle.service_tables.specs.Limits.{most_weight}

-- the most bytes that the path of a target takes in a list of paths: up to 3 for alignment, 4 for its length, and a zero byte at its end
abbrev pub weight_of : Target → ℕ
weight_of target = length target.given + 8

-- what targets weigh
abbrev pub weight : List Target → ℕ
weight targets = sum_by weight_of targets

-- whether a prompt may have these targets
abbrev pub are_light : List Target → Bool
are_light targets = nat_le (weight targets) most_weight
