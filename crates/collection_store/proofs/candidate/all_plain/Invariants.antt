use Rattle.std.proofs.Common.{◌≡◌, drop}
use Rattle.std.specs.List.{list_all}
use Rattle.kr_base.specs.Attributes.{is_name}
use Rattle.keyring_file.specs.Clear.{plain_content}
use Rattle.keyring_file.specs.declared.clear.ClearItem.{ClearItem}
use Rattle.collection_store.proofs.candidate.all_plain.Given as goal

-- all items are plain if those that are left are
abbrev pub invariant-loop-item : goal.invariant-loop-item
invariant-loop-item l =
    list_all (λ (y : ClearItem). is_name plain_content y.content) l.items ≡ list_all (λ (y : ClearItem). is_name plain_content y.content) (drop l.item-index l.items)
