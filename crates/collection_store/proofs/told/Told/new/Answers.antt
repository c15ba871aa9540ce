use Rattle.std.proofs.Common.{◌≡◌, IfSome, subst, rules}
use Rattle.hashed_index.specs.Entries.{IsIndexOf}
use Rattle.keyring_file.specs.declared.clear.ClearItem.{ClearItem}
use Rattle.keyring_seal.specs.Order.{by_number}
use Rattle.collection_store.proofs.OrderLemmas.{rising_by_id, version_by_id}
use Rattle.collection_store.proofs.told.Told.new.Goals as goal

pub invariant_of-result : goal.invariant_of-result
invariant_of-result c =
    let made : c.new-items.result ≡ by_number (λ (item : ClearItem). item.id.0) c.clear.inside.items = search rules in
    version_by_id c.clear.inside.minor c.clear.inside.items c.new-items.result made c.clear.invariant

pub invariant_of-result-2 : goal.invariant_of-result-2
invariant_of-result-2 c =
    let made : c.new-items.result ≡ by_number (λ (item : ClearItem). item.id.0) c.clear.inside.items = search rules in
    let same : c.as_slice.result.now ≡ c.new-items.result = search rules in
    (rising_by_id c.clear.inside.items c.new-items.result made, subst (λ items. IfSome c.index_of-index.result (IsIndexOf items)) same c.index_of-index.ensures)
