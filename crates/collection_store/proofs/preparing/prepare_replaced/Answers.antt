use Rattle.std.proofs.Common.{◌≡◌, cond, nat_eq, List, Some, IfOk, map, ap, refl, subst, sym, rules}
use Rattle.std.specs.Prelude.{IfErr}
use Rattle.std.specs.List.Sorted.{IsStrictlyIncreasing}
use Rattle.keyring_file.specs.declared.clear.ClearItem.{ClearItem}
use Rattle.keyring_seal.specs.Arranged.{Row}
use Rattle.item_store.specs.Swapping.{with_parts}
use Rattle.item_store.specs.Rows.{Row as StoreRow}
use Rattle.collection_store.specs.Changes.{replaced}
use Rattle.collection_store.specs.Preparing.{IsPrepared, MayRefuse}
use Rattle.collection_store.specs.declared.change.Changed.TheVariants as changed
use Rattle.collection_store.proofs.StepLemmas.{made_of as made_as, parts_hashed, parts_ids, parts_rows}
use Rattle.collection_store.proofs.preparing.prepare_replaced.Goals as goal

pub prepare_parts-requires-clause-ids : goal.prepare_parts-requires-clause-ids
prepare_parts-requires-clause-ids c =
    let told = c.args.told.now in
    let edited : c.in-Ok.edited.items ≡ map (λ (y : ClearItem). cond (nat_eq y.id.0 c.args.id.0) (record y { content = c.args.content }) y) told.items = search rules in
    parts_ids c.args.id.0 (λ (y : ClearItem). record y { content = c.args.content }) (λ (row : StoreRow). record row { item = with_parts (record { label = Some c.args.label; value = Some c.args.value; modified = c.args.frame.now.time }) row.item }) (replaced c.args.frame.now.time c.args.label c.args.value c.args.content) (λ y r. refl) told c.args.items.now c.in-Ok.edited.items c.requires edited (λ y. refl)

pub prepare_parts-requires-clause-rising : goal.prepare_parts-requires-clause-rising
prepare_parts-requires-clause-rising c =
    let told = c.args.told.now in
    let edited : c.in-Ok.edited.items ≡ map (λ (y : ClearItem). cond (nat_eq y.id.0 c.args.id.0) (record y { content = c.args.content }) y) told.items = search rules in
    let ids = parts_ids c.args.id.0 (λ (y : ClearItem). record y { content = c.args.content }) (λ (row : StoreRow). record row { item = with_parts (record { label = Some c.args.label; value = Some c.args.value; modified = c.args.frame.now.time }) row.item }) (replaced c.args.frame.now.time c.args.label c.args.value c.args.content) (λ y r. refl) told c.args.items.now c.in-Ok.edited.items c.requires edited (λ y. refl) in
    subst (λ t. IsStrictlyIncreasing t) (sym ids) c.clear-clear.ensures.by_id

pub prepare_parts-requires-clause-hashed : goal.prepare_parts-requires-clause-hashed
prepare_parts-requires-clause-hashed c =
    let told = c.args.told.now in
    let edited : c.in-Ok.edited.items ≡ map (λ (y : ClearItem). cond (nat_eq y.id.0 c.args.id.0) (record y { content = c.args.content }) y) told.items = search rules in
    parts_hashed c.args.id.0 (λ (y : ClearItem). record y { content = c.args.content }) (λ (row : StoreRow). record row { item = with_parts (record { label = Some c.args.label; value = Some c.args.value; modified = c.args.frame.now.time }) row.item }) (replaced c.args.frame.now.time c.args.label c.args.value c.args.content) (λ y r. refl) told c.args.items.now c.in-Ok.edited.items c.requires edited (λ row is. is)

pub returns-clause-prepared : goal.returns-clause-prepared
returns-clause-prepared c =
    let told = c.args.told.now in
    let edited : c.in-Ok.edited.items ≡ map (λ (y : ClearItem). cond (nat_eq y.id.0 c.args.id.0) (record y { content = c.args.content }) y) told.items = search rules in
    let made = ap (λ (t : List Row). made_as t (changed.Changed c.args.id)) (sym (parts_rows c.args.id.0 (λ (y : ClearItem). record y { content = c.args.content }) (λ (row : StoreRow). record row { item = with_parts (record { label = Some c.args.label; value = Some c.args.value; modified = c.args.frame.now.time }) row.item }) (replaced c.args.frame.now.time c.args.label c.args.value c.args.content) (λ y r. refl) told c.args.items.now c.in-Ok.edited.items c.requires edited)) in
    subst (λ m. IfOk c.prepare_parts.result (IsPrepared c.args.frame.now told m c.args.items.now c.prepare_parts.new.items)) (sym made) c.prepare_parts.ensures.prepared

pub returns-clause-refused : goal.returns-clause-refused
returns-clause-refused c =
    let told = c.args.told.now in
    let edited : c.in-Ok.edited.items ≡ map (λ (y : ClearItem). cond (nat_eq y.id.0 c.args.id.0) (record y { content = c.args.content }) y) told.items = search rules in
    let made = ap (λ (t : List Row). made_as t (changed.Changed c.args.id)) (sym (parts_rows c.args.id.0 (λ (y : ClearItem). record y { content = c.args.content }) (λ (row : StoreRow). record row { item = with_parts (record { label = Some c.args.label; value = Some c.args.value; modified = c.args.frame.now.time }) row.item }) (replaced c.args.frame.now.time c.args.label c.args.value c.args.content) (λ y r. refl) told c.args.items.now c.in-Ok.edited.items c.requires edited)) in
    subst (λ m. IfErr c.prepare_parts.result (MayRefuse c.args.frame.now told m)) (sym made) c.prepare_parts.ensures.refused
