use Rattle.std.proofs.Common.{◌≡◌, ◌++◌, drop, map}
use Rattle.collection_store.specs.Copying.{hashes_set}
use Rattle.collection_store.proofs.copying.copies_with_hashes.Given as goal

-- what was copied, and what is left
abbrev pub invariant-loop-place : goal.invariant-loop-place
invariant-loop-place l = l.copied.items ++ map (hashes_set l.id.0 l.attributes) (drop l.place l.items) ≡ map (hashes_set l.id.0 l.attributes) l.items
