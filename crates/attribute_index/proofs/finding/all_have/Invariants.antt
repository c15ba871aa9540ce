use Rattle.std.proofs.Common.{◌≡◌, ◌+◌, ◌<◌, ◌≤◌, true, map, take}
use Rattle.attribute_index.specs.Index.{in_every}
use Rattle.attribute_index.proofs.finding.all_have.Given as goal

abbrev pub invariant-loop-place : goal.invariant-loop-place
invariant-loop-place g l =
    (in_every (take l.place (map (λ x. x.now) l.lists)) l.id.0 ≡ true)
    × (l.place ≤ l.known → l.steps ≤ l.initial.steps + l.place)
    × (l.known < l.place → l.steps + 1 ≤ l.initial.steps + l.place)
    × (l.initial.steps ≤ l.steps)
