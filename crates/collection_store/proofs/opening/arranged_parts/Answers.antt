use Rattle.std.specs.List.{zip}
use Rattle.std.proofs.Common.{◌≡◌, List, ap, map, ◌∙◌, rules}
use Rattle.keyring_file.specs.Clear.{ClearPart, IsOfVersion}
use Rattle.keyring_file.specs.declared.clear.ClearItem.{ClearItem}
use Rattle.keyring_seal.specs.Arranged.{Row, row_number, rows}
use Rattle.keyring_seal.specs.Order.{by_number}
use Rattle.collection_store.proofs.PartsLemmas.{as_clear, as_given, given_distinct, parts_hashed, parts_ids, parts_rising, parts_rows, parts_same, parts_version}
use Rattle.collection_store.proofs.opening.arranged_parts.Goals as goal

pub loaded-requires : goal.loaded-requires
loaded-requires c =
    let given : c.in_ok-clear_items.given.items ≡ map as_given (by_number row_number (rows c.args.content)) = search rules in
    record { distinct = given_distinct c.args.content c.requires c.in_ok-clear_items.given.items given }

pub invariant_of-rising : goal.invariant_of-rising
invariant_of-rising c =
    let joined : c.in_ok-rows.rows.items ≡ rows c.args.content = c.in_ok-rows.ensures ∙ (λ i. zip ((c.into_vec.ensures ∙ ap (λ (p : ClearPart). p.items) c.clear.view_is) i) (c.into_vec-2.ensures i)) in
    let clear : c.in_ok-clear_items.clear_items.items ≡ map as_clear (by_number row_number (rows c.args.content)) = c.in_ok-clear_items.ensures.clear ∙ ap (λ (t : List Row). map as_clear t) (c.in_ok-ordered.ensures ∙ ap (by_number row_number) joined) in
    let old : IsOfVersion c.args.content.clear.minor c.args.content.clear.items = rw (← c.clear.view_is) c.clear.invariant in
    rw (ap (λ (p : ClearPart). p.minor) c.clear.view_is) (parts_version c.args.content c.requires c.new.result (c.new.ensures ∙ clear) old)

pub rising-told-requires : goal.rising-told-requires
rising-told-requires c =
    let joined : c.in_ok-rows.rows.items ≡ rows c.args.content = c.in_ok-rows.ensures ∙ (λ i. zip ((c.into_vec.ensures ∙ ap (λ (p : ClearPart). p.items) c.clear.view_is) i) (c.into_vec-2.ensures i)) in
    let clear : c.in_ok-clear_items.clear_items.items ≡ map as_clear (by_number row_number (rows c.args.content)) = c.in_ok-clear_items.ensures.clear ∙ ap (λ (t : List Row). map as_clear t) (c.in_ok-ordered.ensures ∙ ap (by_number row_number) joined) in
    parts_rising c.args.content c.requires c.new.result (c.new.ensures ∙ clear)

pub returns-clause-rows : goal.returns-clause-rows
returns-clause-rows c =
    let joined : c.in_ok-rows.rows.items ≡ rows c.args.content = c.in_ok-rows.ensures ∙ (λ i. zip ((c.into_vec.ensures ∙ ap (λ (p : ClearPart). p.items) c.clear.view_is) i) (c.into_vec-2.ensures i)) in
    let clear : c.in_ok-clear_items.clear_items.items ≡ map as_clear (by_number row_number (rows c.args.content)) = c.in_ok-clear_items.ensures.clear ∙ ap (λ (t : List Row). map as_clear t) (c.in_ok-ordered.ensures ∙ ap (by_number row_number) joined) in
    let given : c.in_ok-clear_items.given.items ≡ map as_given (by_number row_number (rows c.args.content)) = c.in_ok-clear_items.ensures.items ∙ ap (λ (t : List Row). map as_given t) (c.in_ok-ordered.ensures ∙ ap (by_number row_number) joined) in
    let told : c.rising-told.result ≡ record c.args.content.clear { items = map as_clear (by_number row_number (rows c.args.content)) } =
    c.rising-told.ensures ∙ ap (λ (t : ClearPart). record t { items = c.new.result }) c.clear.view_is ∙ ap (λ (i : List ClearItem). record c.args.content.clear { items = i }) (c.new.ensures ∙ clear) in
    parts_rows c.args.content c.requires c.rising_rows_are_one_list.ensures c.rising-told.result c.in_ok-items.items c.in_ok-clear_items.given.items told given c.in_ok-items.ensures

pub returns-clause-ids : goal.returns-clause-ids
returns-clause-ids c =
    let joined : c.in_ok-rows.rows.items ≡ rows c.args.content = c.in_ok-rows.ensures ∙ (λ i. zip ((c.into_vec.ensures ∙ ap (λ (p : ClearPart). p.items) c.clear.view_is) i) (c.into_vec-2.ensures i)) in
    let clear : c.in_ok-clear_items.clear_items.items ≡ map as_clear (by_number row_number (rows c.args.content)) = c.in_ok-clear_items.ensures.clear ∙ ap (λ (t : List Row). map as_clear t) (c.in_ok-ordered.ensures ∙ ap (by_number row_number) joined) in
    let given : c.in_ok-clear_items.given.items ≡ map as_given (by_number row_number (rows c.args.content)) = c.in_ok-clear_items.ensures.items ∙ ap (λ (t : List Row). map as_given t) (c.in_ok-ordered.ensures ∙ ap (by_number row_number) joined) in
    let told : c.rising-told.result ≡ record c.args.content.clear { items = map as_clear (by_number row_number (rows c.args.content)) } =
    c.rising-told.ensures ∙ ap (λ (t : ClearPart). record t { items = c.new.result }) c.clear.view_is ∙ ap (λ (i : List ClearItem). record c.args.content.clear { items = i }) (c.new.ensures ∙ clear) in
    parts_ids c.args.content c.requires c.rising_rows_are_one_list.ensures c.rising-told.result c.in_ok-items.items c.in_ok-clear_items.given.items told given c.in_ok-items.ensures

pub returns-clause-hashed : goal.returns-clause-hashed
returns-clause-hashed c =
    let joined : c.in_ok-rows.rows.items ≡ rows c.args.content = c.in_ok-rows.ensures ∙ (λ i. zip ((c.into_vec.ensures ∙ ap (λ (p : ClearPart). p.items) c.clear.view_is) i) (c.into_vec-2.ensures i)) in
    let clear : c.in_ok-clear_items.clear_items.items ≡ map as_clear (by_number row_number (rows c.args.content)) = c.in_ok-clear_items.ensures.clear ∙ ap (λ (t : List Row). map as_clear t) (c.in_ok-ordered.ensures ∙ ap (by_number row_number) joined) in
    let given : c.in_ok-clear_items.given.items ≡ map as_given (by_number row_number (rows c.args.content)) = c.in_ok-clear_items.ensures.items ∙ ap (λ (t : List Row). map as_given t) (c.in_ok-ordered.ensures ∙ ap (by_number row_number) joined) in
    let told : c.rising-told.result ≡ record c.args.content.clear { items = map as_clear (by_number row_number (rows c.args.content)) } =
    c.rising-told.ensures ∙ ap (λ (t : ClearPart). record t { items = c.new.result }) c.clear.view_is ∙ ap (λ (i : List ClearItem). record c.args.content.clear { items = i }) (c.new.ensures ∙ clear) in
    parts_hashed c.args.content c.requires c.rising_rows_are_one_list.ensures c.rising-told.result c.in_ok-items.items c.in_ok-clear_items.given.items told given c.in_ok-items.ensures

pub returns-clause-same : goal.returns-clause-same
returns-clause-same c =
    let joined : c.in_ok-rows.rows.items ≡ rows c.args.content = c.in_ok-rows.ensures ∙ (λ i. zip ((c.into_vec.ensures ∙ ap (λ (p : ClearPart). p.items) c.clear.view_is) i) (c.into_vec-2.ensures i)) in
    let clear : c.in_ok-clear_items.clear_items.items ≡ map as_clear (by_number row_number (rows c.args.content)) = c.in_ok-clear_items.ensures.clear ∙ ap (λ (t : List Row). map as_clear t) (c.in_ok-ordered.ensures ∙ ap (by_number row_number) joined) in
    let given : c.in_ok-clear_items.given.items ≡ map as_given (by_number row_number (rows c.args.content)) = c.in_ok-clear_items.ensures.items ∙ ap (λ (t : List Row). map as_given t) (c.in_ok-ordered.ensures ∙ ap (by_number row_number) joined) in
    let told : c.rising-told.result ≡ record c.args.content.clear { items = map as_clear (by_number row_number (rows c.args.content)) } =
    c.rising-told.ensures ∙ ap (λ (t : ClearPart). record t { items = c.new.result }) c.clear.view_is ∙ ap (λ (i : List ClearItem). record c.args.content.clear { items = i }) (c.new.ensures ∙ clear) in
    parts_same c.args.content c.requires c.rising_rows_are_one_list.ensures c.rising-told.result c.in_ok-items.items c.in_ok-clear_items.given.items told given c.in_ok-items.ensures
