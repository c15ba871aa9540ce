use Rattle.std.proofs.Common.{◌≡◌, ◌++◌, take}
use Rattle.std.specs.List.{flat_map}
use Rattle.keyring_seal.specs.Room.{row_text}
use Rattle.keyring_seal.proofs.writing.put_rows.Given as goal

abbrev pub invariant-loop-row : goal.invariant-loop-row
invariant-loop-row l = l.out.items ≡ l.fn.out.items ++ flat_map (λ row. row_text l.minor (row.0.now, row.1.now)) (take l.row-index l.rows)
