use Rattle.std.proofs.Common.{Some, ap, map, sym, subst, ◌∙◌}
use Rattle.item_store.specs.Rows.{IsRising, kept_of, row_at, row_of, rows_without}
use Rattle.item_store.proofs.PlaceLemmas.{Given, found-read, here, removed}
use Rattle.item_store.proofs.RowLemmas.{rising-without, without-none}
use Rattle.item_store.proofs.rows.take_out.Goals as goal

pub invariant_of-rows : goal.invariant_of-rows
invariant_of-rows c =
    let items = c.rows.inside.rows.items in
    let place = rw c.as_slice.ensures.value at c.in-Some.ensures.found in
    let without = ap (map row_of) c.remove.ensures.items ∙ removed c.args.number items c.in-Some.place place.found c.rows.invariant place.at place.its in
    subst IsRising (sym without) (rising-without c.args.number (map row_of items) c.rows.invariant)

pub returns-in-Some-clause-value : goal.returns-in-Some-clause-value
returns-in-Some-clause-value c =
    let items = c.rows.inside.rows.items in
    let place = rw c.as_slice.ensures.value at c.in-Some.ensures.found in
    let read = found-read items c.in-Some.place c.remove.result c.args.number place c.remove.ensures.value in
    sym (sym (ap (row_at c.args.number) c.rows.view_is) ∙ here c.args.number items c.in-Some.place place.found c.rows.invariant place.at place.its ∙ ap (λ x. Some (kept_of x)) read)

pub returns-in-Some-clause-id : goal.returns-in-Some-clause-id
returns-in-Some-clause-id c =
    let items = c.rows.inside.rows.items in
    let place = rw c.as_slice.ensures.value at c.in-Some.ensures.found in
    let read = found-read items c.in-Some.place c.remove.result c.args.number place c.remove.ensures.value in
    sym (ap (λ (item : Given). item.0.0) read) ∙ place.its

pub returns-in-Some-clause-taken : goal.returns-in-Some-clause-taken
returns-in-Some-clause-taken c =
    let items = c.rows.inside.rows.items in
    let place = rw c.as_slice.ensures.value at c.in-Some.ensures.found in
    ap (map row_of) c.remove.ensures.items ∙ removed c.args.number items c.in-Some.place place.found c.rows.invariant place.at place.its ∙ ap (rows_without c.args.number) c.rows.view_is

pub returns-in-None-clause-taken : goal.returns-in-None-clause-taken
returns-in-None-clause-taken c =
    let none = rw (c.as_slice.ensures.value, c.rows.view_is) at c.in-None.ensures.none in
    sym (without-none c.args.number c.args.rows.now none)
