use Rattle.std.proofs.Common.{◌≡◌, ◌+◌, length, take}
use Rattle.std.specs.List.{flat_map, zip}
use Rattle.keyring_seal.specs.Room.{row_text}
use Rattle.keyring_seal.proofs.room.clear_items_room.Given as goal

abbrev pub invariant-loop-i : goal.invariant-loop-i
invariant-loop-i l = l.left + (0 + length (flat_map (row_text l.minor) (take l.i (zip l.clear l.items)))) ≡ l.fn.room
