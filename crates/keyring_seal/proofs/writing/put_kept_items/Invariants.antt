use Rattle.std.proofs.Common.{◌≡◌, ◌++◌, take}
use Rattle.std.specs.List.{flat_map}
use Rattle.keyring_file.specs.Canonical.{clear_item_text}
use Rattle.keyring_seal.proofs.writing.put_kept_items.Given as goal

abbrev pub invariant-loop-row : goal.invariant-loop-row
invariant-loop-row l = l.out.items ≡ l.fn.out.items ++ flat_map (λ row. clear_item_text l.minor row.0.now) (take l.row-index l.rows)
