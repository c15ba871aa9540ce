use Rattle.std.proofs.Common.{◌≡◌, Err, ℕ, List, map, ap, refl, sym, ◌∙◌}
use Rattle.std.specs.List.{zip}
use Rattle.std.specs.Map.{keys_of}
use Rattle.keyring_seal.specs.Arranged.{Row}
use Rattle.item_store.specs.Rows.{Row as StoreRow, Rows, rows_changed as items_changed}
use Rattle.item_store.specs.Swapping.{with_parts}
use Rattle.collection_store.specs.Preparing.{looked, next_of}
use Rattle.collection_store.specs.State.{ids_of}
use Rattle.collection_store.specs.declared.change.Changed.TheVariants as changed
use Rattle.collection_store.specs.declared.rest.Rest.TheVariants as rest
use Rattle.collection_store.proofs.PreparedLemmas.{next_is, over, prepared}
use Rattle.collection_store.proofs.StepLemmas.{firsts_zip, hashed_in, keys_stay, looked_in, there_in}
use Rattle.collection_store.proofs.preparing.prepare_parts.Goals as goal

pub sealed_with-requires-clause-there : goal.sealed_with-requires-clause-there
sealed_with-requires-clause-there c =
    let ids : ids_of c.args.edited.items ≡ keys_of c.swap.new.self = c.requires.ids ∙ c.requires.step.ids ∙ sym (keys_stay _ _ c.args.items.now) ∙ sym (ap (λ (t : Rows). keys_of t) c.swap.ensures.set) in
    there_in c.args.edited.items c.swap.new.self c.requires.rising ids

pub sealed_with-requires-clause-hashed : goal.sealed_with-requires-clause-hashed
sealed_with-requires-clause-hashed c =
    let ids : ids_of c.args.edited.items ≡ keys_of c.swap.new.self = c.requires.ids ∙ c.requires.step.ids ∙ sym (keys_stay _ _ c.args.items.now) ∙ sym (ap (λ (t : Rows). keys_of t) c.swap.ensures.set) in
    hashed_in c.args.edited.items c.swap.new.self c.requires.rising ids (rw c.swap.ensures.set c.requires.hashed)

pub returns-in-Ok-clause-prepared : goal.returns-in-Ok-clause-prepared
returns-in-Ok-clause-prepared c =
    let told = c.args.told.now in
    let edited = c.args.edited.items in
    let named = next_of c.args.frame.now told edited in
    let changed_rows : Rows = items_changed c.args.id.0 (λ (row : StoreRow). record row { item = with_parts c.args.parts row.item }) c.args.items.now in
    let set : c.swap.new.self ≡ changed_rows = c.swap.ensures.set in
    let own : ids_of edited ≡ keys_of changed_rows = c.requires.ids ∙ c.requires.step.ids ∙ sym (keys_stay _ _ c.args.items.now) in
    let ids : ids_of edited ≡ keys_of c.swap.new.self = own ∙ sym (ap (λ (t : Rows). keys_of t) set) in
    let these = zip edited (map (λ (row : ℕ × StoreRow). row.1.item) changed_rows) in
    let rows : ◌≡◌ {A = List Row} (zip edited (map (λ (row : ℕ × StoreRow). row.1.item) c.swap.new.self)) these = ap (λ (t : Rows). zip edited (map (λ (row : ℕ × StoreRow). row.1.item) t)) set in
    prepared c.args.frame.now told _ these (looked edited c.swap.new.self) c.in-Ok.next named (changed.Changed c.args.id) c.args.items.now c.swap.new.self (rest.Swapped c.args.id c.swap.new.parts) c.in-Ok.image
    refl c.in-Ok.ensures.next (next_is c.args.frame.now.time told edited these (firsts_zip edited changed_rows own))
    (looked_in edited c.swap.new.self c.requires.rising ids ∙ rows) rows ids c.requires.hashed c.requires.rising c.swap.ensures.back
    c.in-Ok.ensures.sealed c.in-Ok.ensures.opens c.in-Ok.ensures.clear c.in-Ok.ensures.fits

pub returns-in-Err-TooLarge-clause-refused : goal.returns-in-Err-TooLarge-clause-refused
returns-in-Err-TooLarge-clause-refused c =
    let told = c.args.told.now in
    let edited = c.args.edited.items in
    let named = next_of c.args.frame.now told edited in
    let changed_rows : Rows = items_changed c.args.id.0 (λ (row : StoreRow). record row { item = with_parts c.args.parts row.item }) c.args.items.now in
    let set : c.swap.new.self ≡ changed_rows = c.swap.ensures.set in
    let own : ids_of edited ≡ keys_of changed_rows = c.requires.ids ∙ c.requires.step.ids ∙ sym (keys_stay _ _ c.args.items.now) in
    let ids : ids_of edited ≡ keys_of c.swap.new.self = own ∙ sym (ap (λ (t : Rows). keys_of t) set) in
    let these = zip edited (map (λ (row : ℕ × StoreRow). row.1.item) changed_rows) in
    let rows : ◌≡◌ {A = List Row} (zip edited (map (λ (row : ℕ × StoreRow). row.1.item) c.swap.new.self)) these = ap (λ (t : Rows). zip edited (map (λ (row : ℕ × StoreRow). row.1.item) t)) set in
    over c.args.frame.now told _ these (looked edited c.swap.new.self) named (changed.Changed c.args.id)
    refl (next_is c.args.frame.now.time told edited these (firsts_zip edited changed_rows own))
    (looked_in edited c.swap.new.self c.requires.rising ids ∙ rows) (c.in-Err-TooLarge.ensures.too_large (ap (λ r. Err r) c.in-Err-TooLarge.field-0-is))
