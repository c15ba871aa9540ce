use Rattle.tool_laws.proofs.StoreLemmas.{item_left, nothing_printed}
use Rattle.tool_laws.proofs.store.store_leaves_its_item.Goals as goal

pub returns : goal.returns
returns c = record { left = item_left; printed = nothing_printed }
