use Rattle.std.specs.List.{zip}
use Rattle.std.proofs.Common.{◌≡◌, List, ap, map, ◌∙◌}
use Rattle.keyring_file.specs.Clear.{ClearPart}
use Rattle.keyring_file.specs.declared.clear.ClearItem.{ClearItem}
use Rattle.keyring_seal.specs.Arranged.{rows}
use Rattle.keyring_seal.specs.declared.content.Content.{Content}
use Rattle.collection_store.proofs.PartsLemmas.{as_given, distinct_in_place, parts_in_place}
use Rattle.collection_store.proofs.arranged.items_in_place.Goals as goal

pub loaded-requires : goal.loaded-requires
loaded-requires c =
    let content : Content = record { clear = c.args.clear.now; items = c.args.items.items } in
    let given : c.in_ok-given.given.items ≡ map as_given (rows content) = c.in_ok-given.ensures ∙ ap (λ (t : List ClearItem). map as_given (zip t c.args.items.items)) (c.as_slice.ensures ∙ ap (λ (p : ClearPart). p.items) c.clear.view_is) in
    record { distinct = distinct_in_place content c.requires.sealable c.requires.in_place c.in_ok-given.given.items given }

pub returns : goal.returns
returns c =
    let content : Content = record { clear = c.args.clear.now; items = c.args.items.items } in
    let given : c.in_ok-given.given.items ≡ map as_given (rows content) = c.in_ok-given.ensures ∙ ap (λ (t : List ClearItem). map as_given (zip t c.args.items.items)) (c.as_slice.ensures ∙ ap (λ (p : ClearPart). p.items) c.clear.view_is) in
    parts_in_place content c.requires.sealable c.requires.in_place c.in_ok-given.given.items given c.rising_rows_are_one_list.ensures c.in_ok-store.store c.in_ok-store.ensures
