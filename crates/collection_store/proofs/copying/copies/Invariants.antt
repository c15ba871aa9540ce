use Rattle.std.proofs.Common.{◌≡◌, ◌++◌, drop}
use Rattle.collection_store.proofs.copying.copies.Given as goal

-- what was copied, and what is left
abbrev pub invariant-loop-place : goal.invariant-loop-place
invariant-loop-place l = l.copied.items ++ drop l.place l.items ≡ l.items
