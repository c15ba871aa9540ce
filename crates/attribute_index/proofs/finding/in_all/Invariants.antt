use Rattle.std.proofs.Common.{◌≡◌, ◌+◌, ◌*◌, ◌≤◌, map, take, filter, length}
use Rattle.attribute_index.specs.Index.{in_every}
use Rattle.attribute_index.proofs.finding.in_all.Given as goal

abbrev pub invariant-loop-place : goal.invariant-loop-place
invariant-loop-place g l =
    (map (λ id. id.0) l.found.items ≡ filter (in_every (map (λ x. x.now) l.lists)) (take l.place l.first))
    × (l.steps ≤ l.initial.steps + l.place * length l.lists)
    × (l.initial.steps + length l.found.items ≤ l.steps)
