use Rattle.std.proofs.Common.{◌≡◌, true, false, length, None, Some, arith, rules}
use Rattle.std.specs.Prelude.{max}
use Rattle.std.specs.Option.{option_map}
use Rattle.collection_store.specs.State.{has_image}
use Rattle.collection_store.specs.Storing.{parts_of}
use Rattle.collection_store.proofs.StateLemmas.{items_of_both, items_of_one, most_shown, no_items, none_shown}
use Rattle.collection_store.proofs.collection.Collection.most_items.Goals as goal

pub returns-in-Some-clause-value : goal.returns-in-Some-clause-value
returns-in-Some-clause-value g c =
    let there : has_image c.self.inside.cell.file ≡ true = search rules in
    let most : c.max.result ≡ max (length c.self.inside.told.items) (length c.in-Some.newer.items) = search rules in
    rw (← c.self.view_is, c.in-Some.is) (most_shown c.self.inside.cell.file c.self.inside.told (Some c.in-Some.newer) _ _ c.self.invariant.opens there most)

pub returns-in-Some-clause-images : goal.returns-in-Some-clause-images
returns-in-Some-clause-images g c =
    let kept = rw c.in-Some.is at c.self.invariant in
    let most : c.max.result ≡ max (length c.self.inside.told.items) (length c.in-Some.newer.items) = search rules in
    rw (← c.self.view_is, most) (items_of_both c.self.inside.cell.file c.self.inside.told c.in-Some.newer _ kept)

pub returns-in-None-clause-value : goal.returns-in-None-clause-value
returns-in-None-clause-value g c =
    let there : has_image c.self.inside.cell.file ≡ true = search rules in
    let count : c.len-count.result ≡ length c.self.inside.told.items = search rules in
    rw (← c.self.view_is, c.in-None.is) (most_shown c.self.inside.cell.file c.self.inside.told None _ _ c.self.invariant.opens there (omega (arith, count)))

pub returns-in-None-clause-images : goal.returns-in-None-clause-images
returns-in-None-clause-images g c =
    let kept = rw c.in-None.is at c.self.invariant in
    let there : has_image c.self.inside.cell.file ≡ true = search rules in
    let count : c.len-count.result ≡ length c.self.inside.told.items = search rules in
    rw (← c.self.view_is, count) (items_of_one c.self.inside.cell.file c.self.inside.told _ there kept)

pub returns-then-not-has_image-clause-value : goal.returns-then-not-has_image-clause-value
returns-then-not-has_image-clause-value g c =
    let none : has_image c.self.inside.cell.file ≡ false = search rules in
    rw (← c.self.view_is) (none_shown c.self.inside.cell.file c.self.inside.told c.self.inside.newer (option_map parts_of c.self.inside.held) none)

pub returns-then-not-has_image-clause-images : goal.returns-then-not-has_image-clause-images
returns-then-not-has_image-clause-images g c =
    let none : has_image c.self.inside.cell.file ≡ false = search rules in
    rw (← c.self.view_is) (no_items c.self.inside.cell.file none)
