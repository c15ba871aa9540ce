use Rattle.std.proofs.Common.{◌≡◌, ◌∙◌, cond, nat_eq, Some, None, IfOk, map, refl, subst, sym, rules}
use Rattle.std.specs.Prelude.{IfErr}
use Rattle.std.specs.List.Sorted.{IsStrictlyIncreasing}
use Rattle.keyring_file.specs.declared.clear.ClearItem.{ClearItem}
use Rattle.item_store.specs.Swapping.{with_parts}
use Rattle.item_store.specs.Rows.{Row as StoreRow}
use Rattle.collection_store.specs.Changes.{with_secret}
use Rattle.collection_store.specs.Preparing.{IsPrepared, MayRefuse}
use Rattle.collection_store.specs.declared.change.Changed.TheVariants as changed
use Rattle.collection_store.proofs.StepLemmas.{none_made, parts_hashed, parts_ids, parts_made}
use Rattle.collection_store.proofs.preparing.prepare_secret.Goals as goal

pub returns-then-not-has_item-clause-refused : goal.returns-then-not-has_item-clause-refused
returns-then-not-has_item-clause-refused c = none_made c.args.id.0 c.args.told.now c.args.items.now _ c.requires (sym c.has_item.ensures ∙ c.if-not-has_item.true)

pub prepare_parts-requires-clause-ids : goal.prepare_parts-requires-clause-ids
prepare_parts-requires-clause-ids c =
    let told = c.args.told.now in
    let edited : c.in-Ok.edited.items ≡ map (λ (y : ClearItem). cond (nat_eq y.id.0 c.args.id.0) (record y { content = c.args.content }) y) told.items = search rules in
    parts_ids c.args.id.0 (λ (y : ClearItem). record y { content = c.args.content }) (λ (row : StoreRow). record row { item = with_parts (record { label = None; value = Some c.args.value; modified = c.args.frame.now.time }) row.item }) (with_secret c.args.frame.now.time c.args.value c.args.content) (λ y r. refl) told c.args.items.now c.in-Ok.edited.items c.requires edited (λ y. refl)

pub prepare_parts-requires-clause-rising : goal.prepare_parts-requires-clause-rising
prepare_parts-requires-clause-rising c =
    let told = c.args.told.now in
    let edited : c.in-Ok.edited.items ≡ map (λ (y : ClearItem). cond (nat_eq y.id.0 c.args.id.0) (record y { content = c.args.content }) y) told.items = search rules in
    let ids = parts_ids c.args.id.0 (λ (y : ClearItem). record y { content = c.args.content }) (λ (row : StoreRow). record row { item = with_parts (record { label = None; value = Some c.args.value; modified = c.args.frame.now.time }) row.item }) (with_secret c.args.frame.now.time c.args.value c.args.content) (λ y r. refl) told c.args.items.now c.in-Ok.edited.items c.requires edited (λ y. refl) in
    subst (λ t. IsStrictlyIncreasing t) (sym ids) c.clear-clear.ensures.by_id

pub prepare_parts-requires-clause-hashed : goal.prepare_parts-requires-clause-hashed
prepare_parts-requires-clause-hashed c =
    let told = c.args.told.now in
    let edited : c.in-Ok.edited.items ≡ map (λ (y : ClearItem). cond (nat_eq y.id.0 c.args.id.0) (record y { content = c.args.content }) y) told.items = search rules in
    parts_hashed c.args.id.0 (λ (y : ClearItem). record y { content = c.args.content }) (λ (row : StoreRow). record row { item = with_parts (record { label = None; value = Some c.args.value; modified = c.args.frame.now.time }) row.item }) (with_secret c.args.frame.now.time c.args.value c.args.content) (λ y r. refl) told c.args.items.now c.in-Ok.edited.items c.requires edited (λ row is. is)

pub returns-clause-prepared : goal.returns-clause-prepared
returns-clause-prepared c =
    let told = c.args.told.now in
    let edited : c.in-Ok.edited.items ≡ map (λ (y : ClearItem). cond (nat_eq y.id.0 c.args.id.0) (record y { content = c.args.content }) y) told.items = search rules in
    let made = parts_made c.args.id.0 (λ (y : ClearItem). record y { content = c.args.content }) (λ (row : StoreRow). record row { item = with_parts (record { label = None; value = Some c.args.value; modified = c.args.frame.now.time }) row.item }) (with_secret c.args.frame.now.time c.args.value c.args.content) (λ y r. refl) told c.args.items.now c.in-Ok.edited.items c.requires edited (changed.Changed c.args.id) (sym c.has_item.ensures ∙ c.if-not-has_item.false) in
    subst (λ m. IfOk c.prepare_parts.result (IsPrepared c.args.frame.now told m c.args.items.now c.prepare_parts.new.items)) (sym made) c.prepare_parts.ensures.prepared

pub returns-clause-refused : goal.returns-clause-refused
returns-clause-refused c =
    let told = c.args.told.now in
    let edited : c.in-Ok.edited.items ≡ map (λ (y : ClearItem). cond (nat_eq y.id.0 c.args.id.0) (record y { content = c.args.content }) y) told.items = search rules in
    let made = parts_made c.args.id.0 (λ (y : ClearItem). record y { content = c.args.content }) (λ (row : StoreRow). record row { item = with_parts (record { label = None; value = Some c.args.value; modified = c.args.frame.now.time }) row.item }) (with_secret c.args.frame.now.time c.args.value c.args.content) (λ y r. refl) told c.args.items.now c.in-Ok.edited.items c.requires edited (changed.Changed c.args.id) (sym c.has_item.ensures ∙ c.if-not-has_item.false) in
    subst (λ m. IfErr c.prepare_parts.result (MayRefuse c.args.frame.now told m)) (sym made) c.prepare_parts.ensures.refused
