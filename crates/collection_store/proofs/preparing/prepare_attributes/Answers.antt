use Rattle.std.proofs.Common.{◌≡◌, ◌∙◌, ℕ, cond, nat_eq, List, Err, map, ap, refl, subst, sym, rules}
use Rattle.std.specs.List.{zip}
use Rattle.std.specs.List.Sorted.{IsStrictlyIncreasing}
use Rattle.std.specs.Map.{keys_of}
use Rattle.attribute_hash.specs.Hash.{hashes}
use Rattle.keyring_file.specs.declared.clear.ClearItem.{ClearItem}
use Rattle.keyring_seal.specs.Arranged.{Row}
use Rattle.item_store.specs.Moves.{with_attributes as item_with_attributes}
use Rattle.item_store.specs.Rows.{Row as StoreRow, Rows, rows_changed as items_changed}
use Rattle.collection_store.specs.Changes.{with_attributes}
use Rattle.collection_store.specs.Copying.{hashes_set}
use Rattle.collection_store.specs.Preparing.{looked, next_of}
use Rattle.collection_store.specs.State.{ids_of}
use Rattle.collection_store.specs.declared.change.Changed.TheVariants as changed
use Rattle.collection_store.specs.declared.rest.Rest.TheVariants as rest
use Rattle.collection_store.proofs.PreparedLemmas.{next_is, over, prepared}
use Rattle.collection_store.proofs.StepLemmas.{firsts_zip, hashed_in, keys_stay, looked_in, made_of as made_as, none_made, over_at, parts_hashed, parts_ids, parts_rows, there_in, within_at}
use Rattle.collection_store.proofs.preparing.prepare_attributes.Goals as goal

pub returns-then-not-has_item-clause-refused : goal.returns-then-not-has_item-clause-refused
returns-then-not-has_item-clause-refused c = none_made c.args.id.0 c.args.told.now c.args.items.now _ c.requires (sym c.has_item.ensures ∙ c.if-not-has_item.true)

pub returns-then-are_too_many-clause-refused : goal.returns-then-are_too_many-clause-refused
returns-then-are_too_many-clause-refused c = over_at c.args.id.0 c.args.told.now c.args.items.now c.args.attributes _ c.requires (sym c.has_item.ensures ∙ c.if-not-has_item.false) (sym c.are_too_many.ensures ∙ c.if-are_too_many.true)

pub begin_attributes-requires : goal.begin_attributes-requires
begin_attributes-requires c =
    let taken : c.replace-taken.result ≡ c.args.items.now = c.replace-taken.ensures.value in
    rw taken (sym c.has_item.ensures ∙ c.if-not-has_item.false)

pub sealed_rows-requires-clause-rising : goal.sealed_rows-requires-clause-rising
sealed_rows-requires-clause-rising c =
    let told = c.args.told.now in
    let old = c.args.items.now in
    let slice : c.as_slice.result.now ≡ told.items = search rules in
    let edited : c.in-Ok.edited.items ≡ map (λ (y : ClearItem). cond (nat_eq y.id.0 c.args.id.0) (record y { hashed = hashes c.args.attributes }) y) told.items = c.in-Ok.ensures ∙ ap (λ t. map (hashes_set c.args.id.0 c.args.attributes) t) slice in
    let after = items_changed c.args.id.0 (item_with_attributes c.args.attributes c.args.frame.now.time) old in
    let entries : c.rows.result.now ≡ after = search rules in
    let same = parts_ids c.args.id.0 (λ (y : ClearItem). record y { hashed = hashes c.args.attributes }) (item_with_attributes c.args.attributes c.args.frame.now.time) (with_attributes c.args.frame.now.time c.args.attributes) (λ y r. refl) told old c.in-Ok.edited.items c.requires edited (λ y. refl) in
    let rising = subst (λ t. IsStrictlyIncreasing t) (sym same) c.clear-clear.ensures.by_id in
    let ids : ids_of c.in-Ok.edited.items ≡ keys_of after = same ∙ c.requires.ids ∙ sym (keys_stay _ _ old) in
    let now : ids_of c.in-Ok.edited.items ≡ keys_of c.rows.result.now = ids ∙ sym (ap (λ (t : Rows). keys_of t) entries) in
    let all_hashed = parts_hashed c.args.id.0 (λ (y : ClearItem). record y { hashed = hashes c.args.attributes }) (item_with_attributes c.args.attributes c.args.frame.now.time) (with_attributes c.args.frame.now.time c.args.attributes) (λ y r. refl) told old c.in-Ok.edited.items c.requires edited (λ row is. refl) in
    rising

pub sealed_rows-requires-clause-there : goal.sealed_rows-requires-clause-there
sealed_rows-requires-clause-there c =
    let told = c.args.told.now in
    let old = c.args.items.now in
    let slice : c.as_slice.result.now ≡ told.items = search rules in
    let edited : c.in-Ok.edited.items ≡ map (λ (y : ClearItem). cond (nat_eq y.id.0 c.args.id.0) (record y { hashed = hashes c.args.attributes }) y) told.items = c.in-Ok.ensures ∙ ap (λ t. map (hashes_set c.args.id.0 c.args.attributes) t) slice in
    let after = items_changed c.args.id.0 (item_with_attributes c.args.attributes c.args.frame.now.time) old in
    let entries : c.rows.result.now ≡ after = search rules in
    let same = parts_ids c.args.id.0 (λ (y : ClearItem). record y { hashed = hashes c.args.attributes }) (item_with_attributes c.args.attributes c.args.frame.now.time) (with_attributes c.args.frame.now.time c.args.attributes) (λ y r. refl) told old c.in-Ok.edited.items c.requires edited (λ y. refl) in
    let rising = subst (λ t. IsStrictlyIncreasing t) (sym same) c.clear-clear.ensures.by_id in
    let ids : ids_of c.in-Ok.edited.items ≡ keys_of after = same ∙ c.requires.ids ∙ sym (keys_stay _ _ old) in
    let now : ids_of c.in-Ok.edited.items ≡ keys_of c.rows.result.now = ids ∙ sym (ap (λ (t : Rows). keys_of t) entries) in
    let all_hashed = parts_hashed c.args.id.0 (λ (y : ClearItem). record y { hashed = hashes c.args.attributes }) (item_with_attributes c.args.attributes c.args.frame.now.time) (with_attributes c.args.frame.now.time c.args.attributes) (λ y r. refl) told old c.in-Ok.edited.items c.requires edited (λ row is. refl) in
    there_in c.in-Ok.edited.items c.rows.result.now rising now

pub sealed_rows-requires-clause-hashed : goal.sealed_rows-requires-clause-hashed
sealed_rows-requires-clause-hashed c =
    let told = c.args.told.now in
    let old = c.args.items.now in
    let slice : c.as_slice.result.now ≡ told.items = search rules in
    let edited : c.in-Ok.edited.items ≡ map (λ (y : ClearItem). cond (nat_eq y.id.0 c.args.id.0) (record y { hashed = hashes c.args.attributes }) y) told.items = c.in-Ok.ensures ∙ ap (λ t. map (hashes_set c.args.id.0 c.args.attributes) t) slice in
    let after = items_changed c.args.id.0 (item_with_attributes c.args.attributes c.args.frame.now.time) old in
    let entries : c.rows.result.now ≡ after = search rules in
    let same = parts_ids c.args.id.0 (λ (y : ClearItem). record y { hashed = hashes c.args.attributes }) (item_with_attributes c.args.attributes c.args.frame.now.time) (with_attributes c.args.frame.now.time c.args.attributes) (λ y r. refl) told old c.in-Ok.edited.items c.requires edited (λ y. refl) in
    let rising = subst (λ t. IsStrictlyIncreasing t) (sym same) c.clear-clear.ensures.by_id in
    let ids : ids_of c.in-Ok.edited.items ≡ keys_of after = same ∙ c.requires.ids ∙ sym (keys_stay _ _ old) in
    let now : ids_of c.in-Ok.edited.items ≡ keys_of c.rows.result.now = ids ∙ sym (ap (λ (t : Rows). keys_of t) entries) in
    let all_hashed = parts_hashed c.args.id.0 (λ (y : ClearItem). record y { hashed = hashes c.args.attributes }) (item_with_attributes c.args.attributes c.args.frame.now.time) (with_attributes c.args.frame.now.time c.args.attributes) (λ y r. refl) told old c.in-Ok.edited.items c.requires edited (λ row is. refl) in
    hashed_in c.in-Ok.edited.items c.rows.result.now rising now (rw entries all_hashed)

pub returns-in-Ok-sealed_rows-clause-prepared : goal.returns-in-Ok-sealed_rows-clause-prepared
returns-in-Ok-sealed_rows-clause-prepared c =
    let told = c.args.told.now in
    let old = c.args.items.now in
    let slice : c.as_slice.result.now ≡ told.items = search rules in
    let edited : c.in-Ok.edited.items ≡ map (λ (y : ClearItem). cond (nat_eq y.id.0 c.args.id.0) (record y { hashed = hashes c.args.attributes }) y) told.items = c.in-Ok.ensures ∙ ap (λ t. map (hashes_set c.args.id.0 c.args.attributes) t) slice in
    let after = items_changed c.args.id.0 (item_with_attributes c.args.attributes c.args.frame.now.time) old in
    let entries : c.rows.result.now ≡ after = search rules in
    let same = parts_ids c.args.id.0 (λ (y : ClearItem). record y { hashed = hashes c.args.attributes }) (item_with_attributes c.args.attributes c.args.frame.now.time) (with_attributes c.args.frame.now.time c.args.attributes) (λ y r. refl) told old c.in-Ok.edited.items c.requires edited (λ y. refl) in
    let rising = subst (λ t. IsStrictlyIncreasing t) (sym same) c.clear-clear.ensures.by_id in
    let ids : ids_of c.in-Ok.edited.items ≡ keys_of after = same ∙ c.requires.ids ∙ sym (keys_stay _ _ old) in
    let now : ids_of c.in-Ok.edited.items ≡ keys_of c.rows.result.now = ids ∙ sym (ap (λ (t : Rows). keys_of t) entries) in
    let all_hashed = parts_hashed c.args.id.0 (λ (y : ClearItem). record y { hashed = hashes c.args.attributes }) (item_with_attributes c.args.attributes c.args.frame.now.time) (with_attributes c.args.frame.now.time c.args.attributes) (λ y r. refl) told old c.in-Ok.edited.items c.requires edited (λ row is. refl) in
    let these = zip c.in-Ok.edited.items (map (λ (row : ℕ × StoreRow). row.1.item) after) in
    let rows : ◌≡◌ {A = List Row} (zip c.in-Ok.edited.items (map (λ (row : ℕ × StoreRow). row.1.item) c.rows.result.now)) these = ap (λ (t : Rows). zip c.in-Ok.edited.items (map (λ (row : ℕ × StoreRow). row.1.item) t)) entries in
    let made = within_at c.args.id.0 told old c.args.attributes _ c.requires (sym c.has_item.ensures ∙ c.if-not-has_item.false) (sym c.are_too_many.ensures ∙ c.if-are_too_many.false) ∙ ap (λ (t : List Row). made_as t (changed.Changed c.args.id)) (sym (parts_rows c.args.id.0 (λ (y : ClearItem). record y { hashed = hashes c.args.attributes }) (item_with_attributes c.args.attributes c.args.frame.now.time) (with_attributes c.args.frame.now.time c.args.attributes) (λ y r. refl) told old c.in-Ok.edited.items c.requires edited)) in
    let lent = looked_in c.in-Ok.edited.items c.rows.result.now rising now ∙ rows in
    let after_is : c.in-Ok-begin_attributes.moving.after ≡ after = search rules in
    prepared c.args.frame.now told _ these (looked c.in-Ok.edited.items c.rows.result.now) c.in-Ok-sealed_rows.next (next_of c.args.frame.now told c.in-Ok.edited.items) (changed.Changed c.args.id) old _ (rest.Moved c.in-Ok-begin_attributes.moving) c.in-Ok-sealed_rows.image
    made c.in-Ok-sealed_rows.ensures.next (next_is c.args.frame.now.time told c.in-Ok.edited.items these (firsts_zip c.in-Ok.edited.items after ids))
    lent (ap (λ (t : Rows). zip c.in-Ok.edited.items (map (λ (row : ℕ × StoreRow). row.1.item) t)) after_is) (ids ∙ sym (ap (λ (t : Rows). keys_of t) after_is)) all_hashed rising (search rules)
    c.in-Ok-sealed_rows.ensures.sealed c.in-Ok-sealed_rows.ensures.opens c.in-Ok-sealed_rows.ensures.clear c.in-Ok-sealed_rows.ensures.fits

pub returns-in-Err-TooLarge-clause-refused : goal.returns-in-Err-TooLarge-clause-refused
returns-in-Err-TooLarge-clause-refused c =
    let told = c.args.told.now in
    let old = c.args.items.now in
    let slice : c.as_slice.result.now ≡ told.items = search rules in
    let edited : c.in-Ok.edited.items ≡ map (λ (y : ClearItem). cond (nat_eq y.id.0 c.args.id.0) (record y { hashed = hashes c.args.attributes }) y) told.items = c.in-Ok.ensures ∙ ap (λ t. map (hashes_set c.args.id.0 c.args.attributes) t) slice in
    let after = items_changed c.args.id.0 (item_with_attributes c.args.attributes c.args.frame.now.time) old in
    let entries : c.rows.result.now ≡ after = search rules in
    let same = parts_ids c.args.id.0 (λ (y : ClearItem). record y { hashed = hashes c.args.attributes }) (item_with_attributes c.args.attributes c.args.frame.now.time) (with_attributes c.args.frame.now.time c.args.attributes) (λ y r. refl) told old c.in-Ok.edited.items c.requires edited (λ y. refl) in
    let rising = subst (λ t. IsStrictlyIncreasing t) (sym same) c.clear-clear.ensures.by_id in
    let ids : ids_of c.in-Ok.edited.items ≡ keys_of after = same ∙ c.requires.ids ∙ sym (keys_stay _ _ old) in
    let now : ids_of c.in-Ok.edited.items ≡ keys_of c.rows.result.now = ids ∙ sym (ap (λ (t : Rows). keys_of t) entries) in
    let all_hashed = parts_hashed c.args.id.0 (λ (y : ClearItem). record y { hashed = hashes c.args.attributes }) (item_with_attributes c.args.attributes c.args.frame.now.time) (with_attributes c.args.frame.now.time c.args.attributes) (λ y r. refl) told old c.in-Ok.edited.items c.requires edited (λ row is. refl) in
    let these = zip c.in-Ok.edited.items (map (λ (row : ℕ × StoreRow). row.1.item) after) in
    let rows : ◌≡◌ {A = List Row} (zip c.in-Ok.edited.items (map (λ (row : ℕ × StoreRow). row.1.item) c.rows.result.now)) these = ap (λ (t : Rows). zip c.in-Ok.edited.items (map (λ (row : ℕ × StoreRow). row.1.item) t)) entries in
    let made = within_at c.args.id.0 told old c.args.attributes _ c.requires (sym c.has_item.ensures ∙ c.if-not-has_item.false) (sym c.are_too_many.ensures ∙ c.if-are_too_many.false) ∙ ap (λ (t : List Row). made_as t (changed.Changed c.args.id)) (sym (parts_rows c.args.id.0 (λ (y : ClearItem). record y { hashed = hashes c.args.attributes }) (item_with_attributes c.args.attributes c.args.frame.now.time) (with_attributes c.args.frame.now.time c.args.attributes) (λ y r. refl) told old c.in-Ok.edited.items c.requires edited)) in
    let lent = looked_in c.in-Ok.edited.items c.rows.result.now rising now ∙ rows in
    over c.args.frame.now told _ these (looked c.in-Ok.edited.items c.rows.result.now) (next_of c.args.frame.now told c.in-Ok.edited.items) (changed.Changed c.args.id)
    made (next_is c.args.frame.now.time told c.in-Ok.edited.items these (firsts_zip c.in-Ok.edited.items after ids)) lent (c.in-Err-TooLarge.ensures.too_large (ap (λ r. Err r) c.in-Err-TooLarge.field-0-is))
