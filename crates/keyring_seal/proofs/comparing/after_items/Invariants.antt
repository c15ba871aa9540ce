use Rattle.std.proofs.Common.{◌≡◌, ◌++◌, take}
use Rattle.std.specs.List.{flat_map}
use Rattle.keyring_file.specs.Canonical.{clear_item_text}
use Rattle.keyring_seal.proofs.comparing.after_items.Given as goal

abbrev pub invariant-loop-item : goal.invariant-loop-item
invariant-loop-item l = l.bytes ≡ flat_map (clear_item_text l.minor) (take l.item-index l.items) ++ l.rest
