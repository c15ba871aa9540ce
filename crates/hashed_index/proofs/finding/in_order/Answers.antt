use Rattle.std.proofs.Common.{◌<◌}
use Rattle.std.proofs.lemmas.List.Filters.{All-dedup, dedup_is}
use Rattle.std.proofs.lemmas.List.Kept.{Contains-dedup_nat}
use Rattle.std.proofs.lemmas.List.Sorted.{All-permutation, Contains-permutation}
use Rattle.std.proofs.lemmas.Map.Keys.{IsStrictlyIncreasing-dedup}
use Rattle.hashed_index.proofs.finding.in_order.Goals as goal

pub returns-clause-rising : goal.returns-clause-rising
returns-clause-rising c =
    let is = dedup_is _ _ _ c.dedup.ensures.filtered in
    rw is (IsStrictlyIncreasing-dedup _ c.sort_unstable.ensures.sorted)

pub returns-clause-all : goal.returns-clause-all
returns-clause-all c =
    let is = dedup_is _ _ _ c.dedup.ensures.filtered in
    λ x h. rw is (Contains-dedup_nat _ x (Contains-permutation _ _ x c.sort_unstable.ensures.permutation h))

pub returns-clause-within : goal.returns-clause-within
returns-clause-within c =
    let is = dedup_is _ _ _ c.dedup.ensures.filtered in
    λ bound all. rw is (All-dedup _ (λ place. place < bound) _ (All-permutation (λ place. place < bound) _ _ c.sort_unstable.ensures.permutation all))
