use Rattle.std.proofs.Common.{◌≡◌, ◌+◌, length, take}
use Rattle.std.specs.List.{flat_map}
use Rattle.keyring_file.specs.Canonical.{access_text}
use Rattle.keyring_seal.proofs.room.access_room.Given as goal

abbrev pub invariant-loop-entry : goal.invariant-loop-entry
invariant-loop-entry l = l.left + (4 + length (flat_map (access_text) (take l.entry-index l.entries))) ≡ l.fn.room
