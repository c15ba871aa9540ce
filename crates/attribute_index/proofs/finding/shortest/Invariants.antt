use Rattle.std.proofs.Common.{ℕ, ◌<◌, ◌≤◌, [], length, map, slice_index_or}
use Rattle.attribute_index.proofs.finding.shortest.Given as goal

abbrev pub invariant-loop-place : goal.invariant-loop-place
invariant-loop-place l = (l.best < length l.lists) × ((place : ℕ) → place < l.place → length (slice_index_or (map (λ x. x.now) l.lists) l.best []) ≤ length (slice_index_or (map (λ x. x.now) l.lists) place []))
