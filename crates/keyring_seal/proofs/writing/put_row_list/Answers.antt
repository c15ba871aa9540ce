use Rattle.keyring_file.specs.Canonical.{clear_item_text}
use Rattle.keyring_seal.specs.Arranged.{hashed_row}
use Rattle.keyring_seal.proofs.RowLemmas.{list_put}
use Rattle.keyring_seal.proofs.writing.put_row_list.Goals as goal

pub returns : goal.returns
returns c =
    list_put c.put_rows.result (clear_item_text c.args.minor) (λ row. (hashed_row (row.0.now, row.1.now)).0) c.args.rows.now c.args.out.now.items c.put_number.new.out.items c.put_rows.new.out.items c.in_ok-put_number.ensures c.put_rows.ensures
