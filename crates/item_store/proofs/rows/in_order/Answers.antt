use Rattle.std.proofs.Common.{rules}
use Rattle.std.proofs.lemmas.List.Sorted.{IsNonDecreasingBy-from_sort_by_key}
use Rattle.item_store.proofs.PlaceLemmas.{Given, sorted-rows}
use Rattle.item_store.proofs.rows.in_order.Goals as goal

pub returns : goal.returns
returns c =
    let sorted = c.sort_unstable_by_key.new.self.items in
    let up = IsNonDecreasingBy-from_sort_by_key (λ (item : Given). item.0.0) sorted c.sort_unstable_by_key.ensures.sorted (λ a r q k. (search rules, search rules)) in
    sorted-rows c.args.items.items sorted c.requires c.sort_unstable_by_key.ensures.permutation up
