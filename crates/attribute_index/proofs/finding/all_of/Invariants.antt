use Rattle.std.proofs.Common.{◌≡◌, ◌+◌, ◌≤◌, length, map, take}
use Rattle.attribute_index.proofs.finding.all_of.Given as goal

abbrev pub invariant-loop-place : goal.invariant-loop-place
invariant-loop-place g l = (map (λ id. id.0) l.found.items ≡ take l.place l.ids) × (l.steps ≤ l.initial.steps + l.place) × (l.initial.steps + length l.found.items ≤ l.steps)
