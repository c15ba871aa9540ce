use Rattle.std.proofs.Common.{◌≡◌, [], filter, take}
use Rattle.item_store.specs.Rows.{has_just, passes_at, row_at}
use Rattle.item_store.proofs.uncounted.first_by.Given as goal

abbrev pub invariant-loop-place : goal.invariant-loop-place
invariant-loop-place g l = filter (λ id. passes_at (has_just l.attributes) (row_at id l.rows)) (take l.place l.ids) ≡ []
