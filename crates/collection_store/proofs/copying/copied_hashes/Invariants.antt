use Rattle.std.proofs.Common.{◌≡◌, take}
use Rattle.collection_store.proofs.copying.copied_hashes.Given as goal

-- what was copied
abbrev pub invariant-loop-pair : goal.invariant-loop-pair
invariant-loop-pair l = l.copied.items ≡ take l.pair-index l.pairs
