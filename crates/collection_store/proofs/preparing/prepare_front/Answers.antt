use Rattle.std.proofs.Common.{◌≡◌, Err, List, map, ap, refl, subst, sym, ◌∙◌, rules}
use Rattle.std.specs.List.Sorted.{IsStrictlyIncreasing}
use Rattle.keyring_file.specs.Clear.{ClearPart}
use Rattle.keyring_file.specs.declared.clear.ClearItem.{ClearItem}
use Rattle.keyring_seal.specs.Arranged.{Row}
use Rattle.item_store.specs.Rows.{Rows}
use Rattle.collection_store.specs.Changes.{minor_made}
use Rattle.collection_store.specs.Preparing.{AreHashed, looked}
use Rattle.collection_store.specs.State.{ids_of, rows_with}
use Rattle.collection_store.specs.declared.change.Changed.TheVariants as changed
use Rattle.collection_store.specs.declared.rest.Rest.TheVariants as rest
use Rattle.collection_store.proofs.PreparedLemmas.{next_is, over, prepared}
use Rattle.collection_store.proofs.StepLemmas.{firsts_zip, hashed_in, looked_in, there_in}
use Rattle.collection_store.proofs.preparing.prepare_front.Goals as goal

abbrev firsts : List Row → List ClearItem
firsts rows = map (λ (row : Row). row.0) rows

pub sealed_next-requires-clause-there : goal.sealed_next-requires-clause-there
sealed_next-requires-clause-there c =
    let items : c.next_told-next.result.items ≡ c.args.told.now.items = search rules in
    subst (λ (t : List ClearItem). ◌≡◌ {A = List ClearItem} (firsts (looked t c.rows.result.now)) t) (sym items) (ap (λ (e : Rows). firsts (looked c.args.told.now.items e)) c.rows.ensures.rows ∙ there_in c.args.told.now.items c.args.items.now c.clear-clear.ensures.by_id c.requires.step.ids)

pub sealed_next-requires-clause-hashed : goal.sealed_next-requires-clause-hashed
sealed_next-requires-clause-hashed c =
    let items : c.next_told-next.result.items ≡ c.args.told.now.items = search rules in
    let is : looked c.next_told-next.result.items c.rows.result.now ≡ looked c.args.told.now.items c.args.items.now = λ i. looked (items i) (c.rows.ensures.rows i) in
    subst AreHashed (sym is) (hashed_in c.args.told.now.items c.args.items.now c.clear-clear.ensures.by_id c.requires.step.ids c.requires.step.hashed)

pub returns-in-Ok-sealed_next-clause-prepared : goal.returns-in-Ok-sealed_next-clause-prepared
returns-in-Ok-sealed_next-clause-prepared c =
    let told = c.args.told.now in
    let front = record told { name = c.args.name; salt = c.args.salt; iterations = c.args.iterations } in
    let next = c.next_told-next.result in
    let named : next ≡ record front { modified = c.args.frame.now.time; items = told.items; minor = minor_made told.minor told.items } = search rules in
    let items : next.items ≡ told.items = ap (λ (t : ClearPart). t.items) named in
    let is : looked next.items c.rows.result.now ≡ looked told.items c.args.items.now = λ i. looked (items i) (c.rows.ensures.rows i) in
    let rising = subst (λ (t : List ClearItem). IsStrictlyIncreasing (ids_of t)) (sym items) c.clear-clear.ensures.by_id in
    prepared c.args.frame.now front _ (rows_with told c.args.items.now) (looked next.items c.rows.result.now) next next changed.Named c.args.items.now c.args.items.now rest.Same c.in-Ok-sealed_next.image
    refl refl (named ∙ next_is c.args.frame.now.time front told.items (rows_with told c.args.items.now) (firsts_zip told.items c.args.items.now c.requires.step.ids))
    (is ∙ looked_in told.items c.args.items.now c.clear-clear.ensures.by_id c.requires.step.ids)
    (ap (λ (t : ClearPart). rows_with t c.args.items.now) named) (ap ids_of items ∙ c.requires.step.ids) c.requires.step.hashed rising refl
    c.in-Ok-sealed_next.ensures.sealed c.in-Ok-sealed_next.ensures.opens c.in-Ok-sealed_next.ensures.clear c.in-Ok-sealed_next.ensures.fits

pub returns-in-Err-TooLarge-clause-refused : goal.returns-in-Err-TooLarge-clause-refused
returns-in-Err-TooLarge-clause-refused c =
    let told = c.args.told.now in
    let front = record told { name = c.args.name; salt = c.args.salt; iterations = c.args.iterations } in
    let next = c.next_told-next.result in
    let named : next ≡ record front { modified = c.args.frame.now.time; items = told.items; minor = minor_made told.minor told.items } = search rules in
    let items : next.items ≡ told.items = ap (λ (t : ClearPart). t.items) named in
    let is : looked next.items c.rows.result.now ≡ looked told.items c.args.items.now = λ i. looked (items i) (c.rows.ensures.rows i) in
    over c.args.frame.now front _ (rows_with told c.args.items.now) (looked next.items c.rows.result.now) next changed.Named
    refl (named ∙ next_is c.args.frame.now.time front told.items (rows_with told c.args.items.now) (firsts_zip told.items c.args.items.now c.requires.step.ids))
    (is ∙ looked_in told.items c.args.items.now c.clear-clear.ensures.by_id c.requires.step.ids) (c.in-Err-TooLarge.ensures.too_large (ap (λ r. Err r) c.in-Err-TooLarge.field-0-is))
