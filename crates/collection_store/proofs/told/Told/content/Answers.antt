use Rattle.std.proofs.Common.{◌≡◌, rules}
use Rattle.std.specs.Ordering.{nat_cmp}
use Rattle.std.proofs.lemmas.Fn.{always_returns_same}
use Rattle.collection_store.proofs.SearchLemmas.{content_found, content_missing}
use Rattle.collection_store.proofs.told.Told.content.Goals as goal

-- the closure compares an item's id with the wanted one
pub returns-in-Ok : goal.returns-in-Ok
returns-in-Ok c =
    let equal = c.in-Ok.ensures.position (λ item. nat_cmp item.id.0 c.args.id.0) (always_returns_same _ _ _ (λ a r g called. (search rules, search rules))) in
    let items : c.as_slice-items.result.now ≡ c.args.self.now.items = search rules in
    content_found _ _ c.args.id.0 c.in-Ok.place c.index-items-place.result items (rw (← c.self.view_is) c.self.invariant.0) c.in-Ok.ensures.bound (equal c.index-items-place.result)

pub returns-in-Err : goal.returns-in-Err
returns-in-Err c =
    let parted = c.in-Err.ensures.position (λ item. nat_cmp item.id.0 c.args.id.0) (always_returns_same _ _ _ (λ a r g called. (search rules, search rules))) in
    let items : c.as_slice-items.result.now ≡ c.args.self.now.items = search rules in
    content_missing _ _ c.args.id.0 c.in-Err.field-0 items (rw (← c.self.view_is) c.self.invariant.0) parted
