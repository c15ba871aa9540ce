use Rattle.std.proofs.Common.{◌≡◌, ◌++◌, drop, filter}
use Rattle.collection_store.specs.Copying.{is_other}
use Rattle.collection_store.proofs.copying.copies_without.Given as goal

-- what was copied, and what is left
abbrev pub invariant-loop-place : goal.invariant-loop-place
invariant-loop-place l = l.copied.items ++ filter (is_other l.id.0) (drop l.place l.items) ≡ filter (is_other l.id.0) l.items
