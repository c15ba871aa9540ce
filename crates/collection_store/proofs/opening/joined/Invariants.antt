use Rattle.std.proofs.Common.{◌≡◌, ◌++◌, length}
use Rattle.std.specs.List.{zip}
use Rattle.collection_store.proofs.opening.joined.Given as goal

-- what was joined, and what is left
abbrev pub invariant-loop-clear_item : goal.invariant-loop-clear_item
invariant-loop-clear_item l =
    (goal.iterator-loop-clear_item).can_next l.clear_item-iterator ×
    (goal.iterator-loop-clear_item).is_finite l.clear_item-iterator ×
    (length l.clear_item-iterator.rest.items ≡ l.clear_item-iterator.rest.len) ×
    (length l.items.rest.items ≡ l.items.rest.len) ×
    (l.rows.items ++ zip l.clear_item-iterator.rest.items l.items.rest.items ≡ zip l.fn.clear.items l.fn.items.items)
