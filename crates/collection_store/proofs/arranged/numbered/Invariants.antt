use Rattle.std.proofs.Common.{◌≡◌, ◌++◌, drop, length, map}
use Rattle.std.specs.List.{zip}
use Rattle.keyring_seal.specs.Arranged.{Row}
use Rattle.collection_store.proofs.arranged.numbered.Given as goal

-- what was numbered, and what is left
abbrev pub invariant-loop-one : goal.invariant-loop-one
invariant-loop-one l =
    (length l.items.rest.items ≡ l.items.rest.len) ×
    (l.numbered.items ++ map (λ (row : Row). (row.0.id, row.0.kind, row.1)) (zip (drop l.one-index l.clear) l.items.rest.items) ≡ map (λ (row : Row). (row.0.id, row.0.kind, row.1)) (zip l.clear l.fn.items.items))
