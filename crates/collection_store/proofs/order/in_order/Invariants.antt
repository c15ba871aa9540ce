use Rattle.std.proofs.Common.{◌≡◌, [], length}
use Rattle.keyring_seal.specs.Order.{entered}
use Rattle.collection_store.proofs.order.in_order.Given as goal

-- what was entered, and what is left
abbrev pub invariant-loop-one : goal.invariant-loop-one
invariant-loop-one g l =
    (goal.iterator-loop-one g).can_next l.one-iterator ×
    (goal.iterator-loop-one g).is_finite l.one-iterator ×
    (length l.one-iterator.rest.items ≡ l.one-iterator.rest.len) ×
    (entered g.T.Numbered.number_of l.entered.entries l.one-iterator.rest.items ≡ entered g.T.Numbered.number_of [] l.fn.these.items)
