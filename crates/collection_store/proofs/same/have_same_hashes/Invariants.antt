use Rattle.std.proofs.Common.{◌≡◌, take}
use Rattle.collection_store.proofs.same.have_same_hashes.Given as goal

-- the items so far are the same
abbrev pub invariant-loop-place : goal.invariant-loop-place
invariant-loop-place l = take l.place l.one ≡ take l.place l.other
