use Rattle.std.proofs.lemmas.List.Elements.{All-from_recursion}
use Rattle.keyring_file.specs.Short.{IsShortClearItem}
use Rattle.keyring_seal.specs.Arranged.{hashed_row}
use Rattle.keyring_seal.proofs.writing.put_rows.Goals as goal

pub put_row-requires : goal.put_row-requires
put_row-requires c = rw c.row-item.is (All-from_recursion (λ row. IsShortClearItem (hashed_row (row.0.now, row.1.now)).0) c.args.rows.now c.requires c.loop-row.row-index _ c.loop-row-test.true)
