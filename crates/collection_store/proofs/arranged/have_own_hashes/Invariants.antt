use Rattle.std.specs.List.{zip}
use Rattle.std.specs.Prelude.{◌↔◌}
use Rattle.collection_store.proofs.InPlaceLemmas.{AreOwn, AreOwnFrom}
use Rattle.collection_store.proofs.arranged.have_own_hashes.Given as goal

-- all items have the hashes of their own attributes exactly if those that are left have
abbrev pub invariant-loop-place : goal.invariant-loop-place
invariant-loop-place l = AreOwnFrom l.clear l.items l.place ↔ AreOwn (zip l.clear l.items)
