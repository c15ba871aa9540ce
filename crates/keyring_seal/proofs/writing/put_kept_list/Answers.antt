use Rattle.keyring_file.specs.Canonical.{clear_item_text}
use Rattle.keyring_seal.proofs.RowLemmas.{list_put}
use Rattle.keyring_seal.proofs.writing.put_kept_list.Goals as goal

pub returns : goal.returns
returns c =
    list_put c.put_kept_items.result (clear_item_text c.args.minor) (λ row. row.0.now) c.args.rows.now c.args.out.now.items c.put_number.new.out.items c.put_kept_items.new.out.items c.in_ok-put_number.ensures c.put_kept_items.ensures
