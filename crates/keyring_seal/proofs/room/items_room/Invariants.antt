use Rattle.std.proofs.Common.{◌≡◌, ◌+◌, length, take}
use Rattle.std.specs.List.{flat_map}
use Rattle.keyring_file.specs.Canonical.{item_text}
use Rattle.keyring_seal.proofs.room.items_room.Given as goal

abbrev pub invariant-loop-item : goal.invariant-loop-item
invariant-loop-item l = l.left + (0 + length (flat_map (item_text) (take l.item-index l.items))) ≡ l.fn.room
