use Rattle.std.proofs.Common.{◌≡◌, ◌+◌, length, take}
use Rattle.std.specs.List.{flat_map}
use Rattle.attribute_hash.specs.Hash.{pair_hash}
use Rattle.keyring_file.specs.Canonical.{pair_text}
use Rattle.keyring_seal.proofs.room.hashes_room.Given as goal

abbrev pub invariant-loop-pair : goal.invariant-loop-pair
invariant-loop-pair l = l.left + (4 + length (flat_map (λ pair. pair_text (pair_hash pair)) (take l.pair-index l.pair-items))) ≡ l.fn.room
