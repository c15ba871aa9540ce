use Rattle.attribute_index.proofs.MakingLemmas.{sorted-noted}
use Rattle.attribute_index.proofs.entries.sorted_entries.Goals as goal

pub returns : goal.returns
returns c = λ n t id. sorted-noted n t id c.args.items.now _ _ c.in_ok-entries.ensures c.sort_unstable_by_key.ensures.permutation
