use Rattle.std.proofs.Common.{◌≡◌, ◌++◌, drop, map}
use Rattle.collection_store.specs.Copying.{content_set}
use Rattle.collection_store.proofs.copying.copies_with_content.Given as goal

-- what was copied, and what is left
abbrev pub invariant-loop-place : goal.invariant-loop-place
invariant-loop-place l = l.copied.items ++ map (content_set l.id.0 l.content) (drop l.place l.items) ≡ map (content_set l.id.0 l.content) l.items
