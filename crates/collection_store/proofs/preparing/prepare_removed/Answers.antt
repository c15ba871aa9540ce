use Rattle.std.proofs.Common.{◌≡◌, Err, ◌∙◌, filter, ap, refl, subst, sym, rules}
use Rattle.collection_store.specs.Changes.{rows_without}
use Rattle.collection_store.specs.Copying.{is_other}
use Rattle.collection_store.specs.Preparing.{AreHashed, looked, next_of}
use Rattle.collection_store.specs.State.{rows_with}
use Rattle.collection_store.specs.declared.change.Changed.TheVariants as changed
use Rattle.collection_store.specs.declared.rest.Rest.TheVariants as rest
use Rattle.collection_store.proofs.PreparedLemmas.{next_is, over, prepared}
use Rattle.collection_store.proofs.StepLemmas.{left_firsts, left_hashed, left_ids, left_looked, left_made, left_rising, left_rows, left_there, none_made}
use Rattle.collection_store.proofs.preparing.prepare_removed.Goals as goal

pub returns-then-not-has_item-clause-refused : goal.returns-then-not-has_item-clause-refused
returns-then-not-has_item-clause-refused c = none_made c.args.id.0 c.args.told.now c.args.items.now _ c.requires (sym c.has_item.ensures ∙ c.if-not-has_item.true)

pub sealed_with-requires-clause-rising : goal.sealed_with-requires-clause-rising
sealed_with-requires-clause-rising c =
    let told = c.args.told.now in
    let edited : c.in-Ok.edited.items ≡ filter (is_other c.args.id.0) told.items = search rules in
    left_rising c.args.id.0 told c.args.items.now c.in-Ok.edited.items c.requires c.clear-clear.ensures.by_id edited

pub sealed_with-requires-clause-there : goal.sealed_with-requires-clause-there
sealed_with-requires-clause-there c =
    let told = c.args.told.now in
    let edited : c.in-Ok.edited.items ≡ filter (is_other c.args.id.0) told.items = search rules in
    left_there c.args.id.0 told c.args.items.now c.in-Ok.edited.items c.requires c.clear-clear.ensures.by_id edited

pub sealed_with-requires-clause-hashed : goal.sealed_with-requires-clause-hashed
sealed_with-requires-clause-hashed c =
    let told = c.args.told.now in
    let edited : c.in-Ok.edited.items ≡ filter (is_other c.args.id.0) told.items = search rules in
    subst AreHashed (sym (left_looked c.args.id.0 told c.args.items.now c.in-Ok.edited.items c.requires c.clear-clear.ensures.by_id edited)) (left_hashed c.args.id.0 told c.args.items.now c.in-Ok.edited.items c.requires c.clear-clear.ensures.by_id edited)

pub returns-in-Ok-sealed_with-clause-prepared : goal.returns-in-Ok-sealed_with-clause-prepared
returns-in-Ok-sealed_with-clause-prepared c =
    let told = c.args.told.now in
    let edited : c.in-Ok.edited.items ≡ filter (is_other c.args.id.0) told.items = search rules in
    let these = rows_without c.args.id.0 (rows_with told c.args.items.now) in
    let made = left_made c.args.id.0 told c.args.items.now c.in-Ok.edited.items c.requires c.clear-clear.ensures.by_id edited (changed.Removed c.args.id) (sym c.has_item.ensures ∙ c.if-not-has_item.false) in
    prepared c.args.frame.now told _ these (looked c.in-Ok.edited.items c.args.items.now) c.in-Ok-sealed_with.next (next_of c.args.frame.now told c.in-Ok.edited.items) (changed.Removed c.args.id) c.args.items.now c.args.items.now (rest.Leaving c.args.id) c.in-Ok-sealed_with.image
    made c.in-Ok-sealed_with.ensures.next (next_is c.args.frame.now.time told c.in-Ok.edited.items these (left_firsts c.args.id.0 told c.args.items.now c.in-Ok.edited.items c.requires c.clear-clear.ensures.by_id edited))
    (left_looked c.args.id.0 told c.args.items.now c.in-Ok.edited.items c.requires c.clear-clear.ensures.by_id edited) (left_rows c.args.id.0 told c.args.items.now c.in-Ok.edited.items c.requires c.clear-clear.ensures.by_id edited) (left_ids c.args.id.0 told c.args.items.now c.in-Ok.edited.items c.requires c.clear-clear.ensures.by_id edited) (left_hashed c.args.id.0 told c.args.items.now c.in-Ok.edited.items c.requires c.clear-clear.ensures.by_id edited) (left_rising c.args.id.0 told c.args.items.now c.in-Ok.edited.items c.requires c.clear-clear.ensures.by_id edited) refl
    c.in-Ok-sealed_with.ensures.sealed c.in-Ok-sealed_with.ensures.opens c.in-Ok-sealed_with.ensures.clear c.in-Ok-sealed_with.ensures.fits

pub returns-in-Err-TooLarge-clause-refused : goal.returns-in-Err-TooLarge-clause-refused
returns-in-Err-TooLarge-clause-refused c =
    let told = c.args.told.now in
    let edited : c.in-Ok.edited.items ≡ filter (is_other c.args.id.0) told.items = search rules in
    let these = rows_without c.args.id.0 (rows_with told c.args.items.now) in
    let made = left_made c.args.id.0 told c.args.items.now c.in-Ok.edited.items c.requires c.clear-clear.ensures.by_id edited (changed.Removed c.args.id) (sym c.has_item.ensures ∙ c.if-not-has_item.false) in
    over c.args.frame.now told _ these (looked c.in-Ok.edited.items c.args.items.now) (next_of c.args.frame.now told c.in-Ok.edited.items) (changed.Removed c.args.id)
    made (next_is c.args.frame.now.time told c.in-Ok.edited.items these (left_firsts c.args.id.0 told c.args.items.now c.in-Ok.edited.items c.requires c.clear-clear.ensures.by_id edited)) (left_looked c.args.id.0 told c.args.items.now c.in-Ok.edited.items c.requires c.clear-clear.ensures.by_id edited) (c.in-Err-TooLarge.ensures.too_large (ap (λ r. Err r) c.in-Err-TooLarge.field-0-is))
