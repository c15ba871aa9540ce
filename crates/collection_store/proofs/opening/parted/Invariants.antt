use Rattle.std.proofs.Common.{◌≡◌, ◌++◌, length, map}
use Rattle.keyring_seal.specs.Arranged.{Row, hashed_row}
use Rattle.collection_store.proofs.opening.parted.Given as goal

-- what was made of the rows, and the rows that are left
abbrev pub invariant-loop-clear_item : goal.invariant-loop-clear_item
invariant-loop-clear_item l =
    (goal.iterator-loop-clear_item).can_next l.clear_item-iterator ×
    (goal.iterator-loop-clear_item).is_finite l.clear_item-iterator ×
    (length l.clear_item-iterator.rest.items ≡ l.clear_item-iterator.rest.len) ×
    (l.clear.items ++ map (λ (row : Row). (hashed_row row).0) l.clear_item-iterator.rest.items ≡ map (λ (row : Row). (hashed_row row).0) l.fn.rows.items) ×
    (l.items.items ++ map (λ (row : Row). (row.0.id, row.0.kind, row.1)) l.clear_item-iterator.rest.items ≡ map (λ (row : Row). (row.0.id, row.0.kind, row.1)) l.fn.rows.items)
