use Rattle.std.proofs.Common.{◌≡◌, ◌++◌, drop, map}
use Rattle.item_store.specs.Rows.{given_of, given_row, row_of}
use Rattle.item_store.proofs.loading.items_of.Given as goal

-- what was appended, and what is left
abbrev pub invariant-loop-row : goal.invariant-loop-row
invariant-loop-row l = map given_of l.items.items ++ map (λ row. given_row (row_of row)) (drop l.row-index l.rows) ≡ map (λ row. given_row (row_of row)) l.rows
