use Rattle.std.proofs.Common.{◌≡◌, Some, ap, map, sym, subst, ◌∙◌}
use Rattle.std.specs.Option.{is_some}
use Rattle.keyring_file.specs.declared.area.FullItem.{FullItem}
use Rattle.item_store.specs.Rows.{IsRising, Row, Rows, kept_of, row_at, row_of, rows_changed}
use Rattle.item_store.specs.Swapping.{with_parts}
use Rattle.item_store.proofs.PlaceLemmas.{found-read, here, set-read}
use Rattle.item_store.proofs.RowLemmas.{changed-back, changed-none, rising-changed}
use Rattle.item_store.proofs.rows.swap_parts.Goals as goal

pub invariant_of-rows : goal.invariant_of-rows
invariant_of-rows c =
    let items = c.rows.inside.rows.items in
    let place = rw c.as_slice.ensures.value at c.in-Some.ensures.found in
    let set = set-read c.args.number (λ (row : Row). record row { item = with_parts c.args.parts.now row.item }) c.swap_item.new.item items c.in-Some.place c.index_mut.result.now c.rows.invariant place c.index_mut.ensures.value (λ i. record { kind = c.index_mut.result.now.1; item = c.swap_item.ensures.set i }) in
    subst IsRising (sym set) (rising-changed c.args.number (λ (row : Row). record row { item = with_parts c.args.parts.now row.item }) (map row_of items) c.rows.invariant)

pub returns-in-Some-clause-set : goal.returns-in-Some-clause-set
returns-in-Some-clause-set c =
    let items = c.rows.inside.rows.items in
    let place = rw c.as_slice.ensures.value at c.in-Some.ensures.found in
    set-read c.args.number (λ (row : Row). record row { item = with_parts c.args.parts.now row.item }) c.swap_item.new.item items c.in-Some.place c.index_mut.result.now c.rows.invariant place c.index_mut.ensures.value (λ i. record { kind = c.index_mut.result.now.1; item = c.swap_item.ensures.set i })
    ∙ ap (rows_changed c.args.number (λ (row : Row). record row { item = with_parts c.args.parts.now row.item })) c.rows.view_is

pub returns-in-Some-clause-there : goal.returns-in-Some-clause-there
returns-in-Some-clause-there c =
    let items = c.rows.inside.rows.items in
    let place = rw c.as_slice.ensures.value at c.in-Some.ensures.found in
    sym (ap is_some (here c.args.number items c.in-Some.place place.found c.rows.invariant place.at place.its)) ∙ ap (λ (rows : Rows). is_some (row_at c.args.number rows)) c.rows.view_is

pub returns-in-None-clause-set : goal.returns-in-None-clause-set
returns-in-None-clause-set c =
    let none = rw (c.as_slice.ensures.value, c.rows.view_is) at c.in-None.ensures.none in
    sym (changed-none c.args.number (λ (row : Row). record row { item = with_parts c.args.parts.now row.item }) c.args.rows.now none)

-- the row is changed back to what it was
pub returns-in-Some-clause-back : goal.returns-in-Some-clause-back
returns-in-Some-clause-back c =
    let items = c.rows.inside.rows.items in
    let place = rw c.as_slice.ensures.value at c.in-Some.ensures.found in
    let row = kept_of c.index_mut.result.now in
    let read : place.found ≡ c.index_mut.result.now = found-read items c.in-Some.place c.index_mut.result.now c.args.number place c.index_mut.ensures.value in
    let there : row_at c.args.number c.args.rows.now ≡ Some row = sym (ap (row_at c.args.number) c.rows.view_is) ∙ here c.args.number items c.in-Some.place place.found c.rows.invariant place.at place.its ∙ ap (λ x. Some (kept_of x)) read in
    let back = λ (row : Row). record row { item = with_parts c.swap_item.new.parts row.item } in
    let own : back ((λ (row : Row). record row { item = with_parts c.args.parts.now row.item }) row) ≡ row =
    ap (λ (item : FullItem). record row { item = with_parts c.swap_item.new.parts item }) (sym c.swap_item.ensures.set) ∙ ap (λ (item : FullItem). record row { item = item }) c.swap_item.ensures.back in
    changed-back c.args.number (λ (row : Row). record row { item = with_parts c.args.parts.now row.item }) back c.args.rows.now _ row (subst IsRising c.rows.view_is c.rows.invariant) there (returns-in-Some-clause-set c) own

pub returns-in-None-clause-back : goal.returns-in-None-clause-back
returns-in-None-clause-back c =
    let none = rw (c.as_slice.ensures.value, c.rows.view_is) at c.in-None.ensures.none in
    changed-none c.args.number (λ (row : Row). record row { item = with_parts c.args.parts.now row.item }) c.args.rows.now none
