use Rattle.std.proofs.Common.{◌≡◌, ◌∙◌, ◌++◌, ◌<◌, List, [], ◌∷◌, Err, IsSome, length, map, ap, refl, subst, sym, rules}
use Rattle.attribute_hash.specs.Hash.{hashes}
use Rattle.keyring_file.specs.declared.clear.ClearItem.{ClearItem}
use Rattle.keyring_seal.specs.Arranged.{Row}
use Rattle.item_store.specs.Rows.{Row as StoreRow, most_attributes}
use Rattle.collection_store.specs.Changes.{made_new}
use Rattle.collection_store.specs.Preparing.{AreHashed, looked, next_of}
use Rattle.collection_store.specs.State.{rows_with}
use Rattle.collection_store.specs.declared.change.Changed.TheVariants as changed
use Rattle.collection_store.specs.declared.rest.Rest.TheVariants as rest
use Rattle.collection_store.proofs.PreparedLemmas.{next_is, over, prepared}
use Rattle.collection_store.proofs.StepLemmas.{added_hashed, added_ids, added_rising, added_rows, added_undone, firsts_zip, hashed_in, looked_in, there_in, within_made}
use Rattle.collection_store.proofs.preparing.prepare_added.Goals as goal

pub sealed_with-requires-clause-rising : goal.sealed_with-requires-clause-rising
sealed_with-requires-clause-rising c =
    let told = c.args.told.now in
    let id = c.in-Ok-add.id in
    let row : StoreRow = record { kind = 0; item = record { label = c.args.label; value = c.args.value; created = c.args.frame.now.time; modified = c.args.frame.now.time; attributes = c.args.attributes; access = [] } } in
    let y : ClearItem = record { id = id; kind = 0; hashed = hashes c.args.attributes; content = c.args.content } in
    let added : c.add.new.self ≡ c.args.items.now ++ (id.0, row) ∷ [] = search rules in
    let edited : c.in-Ok-copies_and.edited.items ≡ told.items ++ y ∷ [] = search rules in
    added_rising id.0 told c.args.items.now y row c.requires c.clear-clear.ensures.by_id refl c.in-Ok-add.ensures.id refl c.in-Ok-copies_and.edited.items edited c.add.new.self added

pub sealed_with-requires-clause-there : goal.sealed_with-requires-clause-there
sealed_with-requires-clause-there c =
    let told = c.args.told.now in
    let id = c.in-Ok-add.id in
    let row : StoreRow = record { kind = 0; item = record { label = c.args.label; value = c.args.value; created = c.args.frame.now.time; modified = c.args.frame.now.time; attributes = c.args.attributes; access = [] } } in
    let y : ClearItem = record { id = id; kind = 0; hashed = hashes c.args.attributes; content = c.args.content } in
    let added : c.add.new.self ≡ c.args.items.now ++ (id.0, row) ∷ [] = search rules in
    let edited : c.in-Ok-copies_and.edited.items ≡ told.items ++ y ∷ [] = search rules in
    there_in c.in-Ok-copies_and.edited.items c.add.new.self (added_rising id.0 told c.args.items.now y row c.requires c.clear-clear.ensures.by_id refl c.in-Ok-add.ensures.id refl c.in-Ok-copies_and.edited.items edited c.add.new.self added) (added_ids id.0 told c.args.items.now y row c.requires c.clear-clear.ensures.by_id refl c.in-Ok-add.ensures.id refl c.in-Ok-copies_and.edited.items edited c.add.new.self added)

pub sealed_with-requires-clause-hashed : goal.sealed_with-requires-clause-hashed
sealed_with-requires-clause-hashed c =
    let told = c.args.told.now in
    let id = c.in-Ok-add.id in
    let row : StoreRow = record { kind = 0; item = record { label = c.args.label; value = c.args.value; created = c.args.frame.now.time; modified = c.args.frame.now.time; attributes = c.args.attributes; access = [] } } in
    let y : ClearItem = record { id = id; kind = 0; hashed = hashes c.args.attributes; content = c.args.content } in
    let added : c.add.new.self ≡ c.args.items.now ++ (id.0, row) ∷ [] = search rules in
    let edited : c.in-Ok-copies_and.edited.items ≡ told.items ++ y ∷ [] = search rules in
    hashed_in c.in-Ok-copies_and.edited.items c.add.new.self (added_rising id.0 told c.args.items.now y row c.requires c.clear-clear.ensures.by_id refl c.in-Ok-add.ensures.id refl c.in-Ok-copies_and.edited.items edited c.add.new.self added) (added_ids id.0 told c.args.items.now y row c.requires c.clear-clear.ensures.by_id refl c.in-Ok-add.ensures.id refl c.in-Ok-copies_and.edited.items edited c.add.new.self added) (subst AreHashed (sym (added_rows id.0 told c.args.items.now y row c.requires c.clear-clear.ensures.by_id refl c.in-Ok-add.ensures.id refl c.in-Ok-copies_and.edited.items edited c.add.new.self added)) (added_hashed id.0 told c.args.items.now y row c.requires c.clear-clear.ensures.by_id refl c.in-Ok-add.ensures.id refl c.in-Ok-copies_and.edited.items edited c.add.new.self added))

pub returns-in-Ok-sealed_with-clause-prepared : goal.returns-in-Ok-sealed_with-clause-prepared
returns-in-Ok-sealed_with-clause-prepared c =
    let told = c.args.told.now in
    let id = c.in-Ok-add.id in
    let row : StoreRow = record { kind = 0; item = record { label = c.args.label; value = c.args.value; created = c.args.frame.now.time; modified = c.args.frame.now.time; attributes = c.args.attributes; access = [] } } in
    let y : ClearItem = record { id = id; kind = 0; hashed = hashes c.args.attributes; content = c.args.content } in
    let added : c.add.new.self ≡ c.args.items.now ++ (id.0, row) ∷ [] = search rules in
    let edited : c.in-Ok-copies_and.edited.items ≡ told.items ++ y ∷ [] = search rules in
    let these = rows_with told c.args.items.now ++ (y, row.item) ∷ [] in
    let ids = added_ids id.0 told c.args.items.now y row c.requires c.clear-clear.ensures.by_id refl c.in-Ok-add.ensures.id refl c.in-Ok-copies_and.edited.items edited c.add.new.self added in
    let rows = added_rows id.0 told c.args.items.now y row c.requires c.clear-clear.ensures.by_id refl c.in-Ok-add.ensures.id refl c.in-Ok-copies_and.edited.items edited c.add.new.self added in
    let never = λ (more : most_attributes < length c.args.attributes). let wrong = c.in-Ok-add.ensures.too_many.1 (subst (λ o. IsSome o) c.in-Ok-add.ensures.id refl, more) in absurd cc in
    let made = ap (λ n. made_new n c.args.frame.now.time c.args.label c.args.attributes c.args.value c.args.content (rows_with told c.args.items.now)) (sym c.in-Ok-add.ensures.id) ∙ within_made c.args.attributes (these, changed.Made id) never in
    let firsts : map (λ (row : Row). row.0) these ≡ c.in-Ok-copies_and.edited.items = ap (λ (t : List Row). map (λ (row : Row). row.0) t) (sym rows) ∙ firsts_zip c.in-Ok-copies_and.edited.items c.add.new.self ids in
    let lent = looked_in c.in-Ok-copies_and.edited.items c.add.new.self (added_rising id.0 told c.args.items.now y row c.requires c.clear-clear.ensures.by_id refl c.in-Ok-add.ensures.id refl c.in-Ok-copies_and.edited.items edited c.add.new.self added) ids ∙ rows in
    prepared c.args.frame.now told _ these (looked c.in-Ok-copies_and.edited.items c.add.new.self) c.in-Ok-sealed_with.next (next_of c.args.frame.now told c.in-Ok-copies_and.edited.items) (changed.Made id) c.args.items.now c.add.new.self (rest.Added id) c.in-Ok-sealed_with.image
    made c.in-Ok-sealed_with.ensures.next (next_is c.args.frame.now.time told c.in-Ok-copies_and.edited.items these firsts)
    lent rows ids (added_hashed id.0 told c.args.items.now y row c.requires c.clear-clear.ensures.by_id refl c.in-Ok-add.ensures.id refl c.in-Ok-copies_and.edited.items edited c.add.new.self added) (added_rising id.0 told c.args.items.now y row c.requires c.clear-clear.ensures.by_id refl c.in-Ok-add.ensures.id refl c.in-Ok-copies_and.edited.items edited c.add.new.self added) (added_undone id.0 told c.args.items.now y row c.requires c.clear-clear.ensures.by_id refl c.in-Ok-add.ensures.id refl c.in-Ok-copies_and.edited.items edited c.add.new.self added)
    c.in-Ok-sealed_with.ensures.sealed c.in-Ok-sealed_with.ensures.opens c.in-Ok-sealed_with.ensures.clear c.in-Ok-sealed_with.ensures.fits

pub returns-in-Err-TooLarge-clause-refused : goal.returns-in-Err-TooLarge-clause-refused
returns-in-Err-TooLarge-clause-refused c =
    let told = c.args.told.now in
    let id = c.in-Ok-add.id in
    let row : StoreRow = record { kind = 0; item = record { label = c.args.label; value = c.args.value; created = c.args.frame.now.time; modified = c.args.frame.now.time; attributes = c.args.attributes; access = [] } } in
    let y : ClearItem = record { id = id; kind = 0; hashed = hashes c.args.attributes; content = c.args.content } in
    let added : c.add.new.self ≡ c.args.items.now ++ (id.0, row) ∷ [] = search rules in
    let edited : c.in-Ok-copies_and.edited.items ≡ told.items ++ y ∷ [] = search rules in
    let these = rows_with told c.args.items.now ++ (y, row.item) ∷ [] in
    let ids = added_ids id.0 told c.args.items.now y row c.requires c.clear-clear.ensures.by_id refl c.in-Ok-add.ensures.id refl c.in-Ok-copies_and.edited.items edited c.add.new.self added in
    let rows = added_rows id.0 told c.args.items.now y row c.requires c.clear-clear.ensures.by_id refl c.in-Ok-add.ensures.id refl c.in-Ok-copies_and.edited.items edited c.add.new.self added in
    let never = λ (more : most_attributes < length c.args.attributes). let wrong = c.in-Ok-add.ensures.too_many.1 (subst (λ o. IsSome o) c.in-Ok-add.ensures.id refl, more) in absurd cc in
    let made = ap (λ n. made_new n c.args.frame.now.time c.args.label c.args.attributes c.args.value c.args.content (rows_with told c.args.items.now)) (sym c.in-Ok-add.ensures.id) ∙ within_made c.args.attributes (these, changed.Made id) never in
    let firsts : map (λ (row : Row). row.0) these ≡ c.in-Ok-copies_and.edited.items = ap (λ (t : List Row). map (λ (row : Row). row.0) t) (sym rows) ∙ firsts_zip c.in-Ok-copies_and.edited.items c.add.new.self ids in
    let lent = looked_in c.in-Ok-copies_and.edited.items c.add.new.self (added_rising id.0 told c.args.items.now y row c.requires c.clear-clear.ensures.by_id refl c.in-Ok-add.ensures.id refl c.in-Ok-copies_and.edited.items edited c.add.new.self added) ids ∙ rows in
    over c.args.frame.now told _ these (looked c.in-Ok-copies_and.edited.items c.add.new.self) (next_of c.args.frame.now told c.in-Ok-copies_and.edited.items) (changed.Made id)
    made (next_is c.args.frame.now.time told c.in-Ok-copies_and.edited.items these firsts) lent (c.in-Err-TooLarge.ensures.too_large (ap (λ r. Err r) c.in-Err-TooLarge.field-0-is))

pub returns-in-Err-TooLarge-clause-unchanged : goal.returns-in-Err-TooLarge-clause-unchanged
returns-in-Err-TooLarge-clause-unchanged c =
    let told = c.args.told.now in
    let id = c.in-Ok-add.id in
    let row : StoreRow = record { kind = 0; item = record { label = c.args.label; value = c.args.value; created = c.args.frame.now.time; modified = c.args.frame.now.time; attributes = c.args.attributes; access = [] } } in
    let y : ClearItem = record { id = id; kind = 0; hashed = hashes c.args.attributes; content = c.args.content } in
    let added : c.add.new.self ≡ c.args.items.now ++ (id.0, row) ∷ [] = search rules in
    c.take_out-in-Err-TooLarge.ensures ∙ added_undone id.0 told c.args.items.now y row c.requires c.clear-clear.ensures.by_id refl c.in-Ok-add.ensures.id refl (told.items ++ y ∷ []) refl c.add.new.self added

pub returns-in-Err-copies_and-clause-unchanged : goal.returns-in-Err-copies_and-clause-unchanged
returns-in-Err-copies_and-clause-unchanged c =
    let told = c.args.told.now in
    let id = c.in-Ok-add.id in
    let row : StoreRow = record { kind = 0; item = record { label = c.args.label; value = c.args.value; created = c.args.frame.now.time; modified = c.args.frame.now.time; attributes = c.args.attributes; access = [] } } in
    let y : ClearItem = record { id = id; kind = 0; hashed = hashes c.args.attributes; content = c.args.content } in
    let added : c.add.new.self ≡ c.args.items.now ++ (id.0, row) ∷ [] = search rules in
    c.take_out.ensures ∙ added_undone id.0 told c.args.items.now y row c.requires c.clear-clear.ensures.by_id refl c.in-Ok-add.ensures.id refl (told.items ++ y ∷ []) refl c.add.new.self added

pub returns-in-Err-OutOfMemory-sealed_with-clause-unchanged : goal.returns-in-Err-OutOfMemory-sealed_with-clause-unchanged
returns-in-Err-OutOfMemory-sealed_with-clause-unchanged c =
    let told = c.args.told.now in
    let id = c.in-Ok-add.id in
    let row : StoreRow = record { kind = 0; item = record { label = c.args.label; value = c.args.value; created = c.args.frame.now.time; modified = c.args.frame.now.time; attributes = c.args.attributes; access = [] } } in
    let y : ClearItem = record { id = id; kind = 0; hashed = hashes c.args.attributes; content = c.args.content } in
    let added : c.add.new.self ≡ c.args.items.now ++ (id.0, row) ∷ [] = search rules in
    c.take_out-in-Err-OutOfMemory-sealed_with.ensures ∙ added_undone id.0 told c.args.items.now y row c.requires c.clear-clear.ensures.by_id refl c.in-Ok-add.ensures.id refl (told.items ++ y ∷ []) refl c.add.new.self added
