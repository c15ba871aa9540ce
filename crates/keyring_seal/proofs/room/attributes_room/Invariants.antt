use Rattle.std.proofs.Common.{◌≡◌, ◌+◌, length, take}
use Rattle.std.specs.List.{flat_map}
use Rattle.keyring_file.specs.Canonical.{attribute_text}
use Rattle.keyring_seal.proofs.room.attributes_room.Given as goal

abbrev pub invariant-loop-pair : goal.invariant-loop-pair
invariant-loop-pair l = l.left + (4 + length (flat_map (attribute_text) (take l.pair-index l.pair-items))) ≡ l.fn.room
