use Rattle.std.proofs.Common.{◌+◌, ◌<◌, ℕ, get_or}
use Rattle.item_store.proofs.PlaceLemmas.{Given}
use Rattle.item_store.proofs.rows.is_rising.Given as goal

-- up to the place each number is less than the next one
abbrev pub invariant-loop-place : goal.invariant-loop-place
invariant-loop-place l = (place : ℕ) (d : Given) → place + 1 < l.place → (get_or l.rows place d).0.0 < (get_or l.rows (place + 1) d).0.0
