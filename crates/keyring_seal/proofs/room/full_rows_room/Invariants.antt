use Rattle.std.proofs.Common.{◌≡◌, ◌+◌, length, take}
use Rattle.std.specs.List.{flat_map}
use Rattle.keyring_file.specs.Canonical.{item_text}
use Rattle.keyring_seal.proofs.ArrangeLemmas.{Lent}
use Rattle.keyring_seal.proofs.room.full_rows_room.Given as goal

abbrev pub invariant-loop-row : goal.invariant-loop-row
invariant-loop-row l = l.left + (0 + length (flat_map (λ (row : Lent). item_text row.1.now) (take l.row-index l.rows))) ≡ l.fn.room
