use Rattle.std.proofs.Common.{◌≡◌, Some, ap, map, sym, subst, ◌∙◌}
use Rattle.std.specs.Option.{is_some}
use Rattle.std.specs.Prelude.{IfSome}
use Rattle.item_store.specs.Moves.{with_attributes}
use Rattle.item_store.specs.Rows.{IsRising, Rows, attributes_of, kept_of, row_at, row_of, rows_changed}
use Rattle.item_store.proofs.PlaceLemmas.{found-read, here, set-read}
use Rattle.item_store.proofs.RowLemmas.{changed-back, changed-none, rising-changed}
use Rattle.item_store.proofs.rows.swap_attributes.Goals as goal

pub invariant_of-rows : goal.invariant_of-rows
invariant_of-rows c =
    let items = c.rows.inside.rows.items in
    let place = rw c.as_slice.ensures.value at c.in-Some.ensures.found in
    let set = set-read c.args.number (with_attributes c.args.attributes.now c.args.modified.now) c.swap_own.new.item items c.in-Some.place c.index_mut.result.now c.rows.invariant place c.index_mut.ensures.value (λ i. record { kind = c.index_mut.result.now.1; item = c.swap_own.ensures.item i }) in
    subst IsRising (sym set) (rising-changed c.args.number (with_attributes c.args.attributes.now c.args.modified.now) (map row_of items) c.rows.invariant)

pub returns-in-Some-clause-set : goal.returns-in-Some-clause-set
returns-in-Some-clause-set c =
    let items = c.rows.inside.rows.items in
    let place = rw c.as_slice.ensures.value at c.in-Some.ensures.found in
    set-read c.args.number (with_attributes c.args.attributes.now c.args.modified.now) c.swap_own.new.item items c.in-Some.place c.index_mut.result.now c.rows.invariant place c.index_mut.ensures.value (λ i. record { kind = c.index_mut.result.now.1; item = c.swap_own.ensures.item i })
    ∙ ap (rows_changed c.args.number (with_attributes c.args.attributes.now c.args.modified.now)) c.rows.view_is

pub returns-in-Some-clause-there : goal.returns-in-Some-clause-there
returns-in-Some-clause-there c =
    let items = c.rows.inside.rows.items in
    let place = rw c.as_slice.ensures.value at c.in-Some.ensures.found in
    sym (ap is_some (here c.args.number items c.in-Some.place place.found c.rows.invariant place.at place.its)) ∙ ap (λ (rows : Rows). is_some (row_at c.args.number rows)) c.rows.view_is

pub returns-in-None-clause-set : goal.returns-in-None-clause-set
returns-in-None-clause-set c =
    let none = rw (c.as_slice.ensures.value, c.rows.view_is) at c.in-None.ensures.none in
    sym (changed-none c.args.number (with_attributes c.args.attributes.now c.args.modified.now) c.args.rows.now none)

-- the row is changed back to what it was
pub returns-in-Some-clause-back : goal.returns-in-Some-clause-back
returns-in-Some-clause-back c =
    let items = c.rows.inside.rows.items in
    let place = rw c.as_slice.ensures.value at c.in-Some.ensures.found in
    let row = kept_of c.index_mut.result.now in
    let read : place.found ≡ c.index_mut.result.now = found-read items c.in-Some.place c.index_mut.result.now c.args.number place c.index_mut.ensures.value in
    let there : row_at c.args.number c.args.rows.now ≡ Some row = sym (ap (row_at c.args.number) c.rows.view_is) ∙ here c.args.number items c.in-Some.place place.found c.rows.invariant place.at place.its ∙ ap (λ x. Some (kept_of x)) read in
    let attributes : c.swap_own.new.attributes ≡ row.item.attributes = c.swap_own.ensures.attributes in
    let modified : c.swap_own.new.modified ≡ row.item.modified = c.swap_own.ensures.modified in
    let own : with_attributes c.swap_own.new.attributes c.swap_own.new.modified (with_attributes c.args.attributes.now c.args.modified.now row) ≡ row = λ i. record row { item = record row.item { attributes = attributes i; modified = modified i } } in
    changed-back c.args.number (with_attributes c.args.attributes.now c.args.modified.now) (with_attributes c.swap_own.new.attributes c.swap_own.new.modified) c.args.rows.now _ row (subst IsRising c.rows.view_is c.rows.invariant) there (returns-in-Some-clause-set c) own

pub returns-in-Some-clause-given : goal.returns-in-Some-clause-given
returns-in-Some-clause-given c =
    let items = c.rows.inside.rows.items in
    let place = rw c.as_slice.ensures.value at c.in-Some.ensures.found in
    let read : place.found ≡ c.index_mut.result.now = found-read items c.in-Some.place c.index_mut.result.now c.args.number place c.index_mut.ensures.value in
    let there : row_at c.args.number c.args.rows.now ≡ Some (kept_of c.index_mut.result.now) = sym (ap (row_at c.args.number) c.rows.view_is) ∙ here c.args.number items c.in-Some.place place.found c.rows.invariant place.at place.its ∙ ap (λ x. Some (kept_of x)) read in
    subst (λ o. IfSome o (λ row. c.swap_own.new.attributes ≡ attributes_of row)) (sym there) c.swap_own.ensures.attributes

pub returns-in-None-clause-given : goal.returns-in-None-clause-given
returns-in-None-clause-given c =
    let none = rw (c.as_slice.ensures.value, c.rows.view_is) at c.in-None.ensures.none in
    subst (λ o. IfSome o (λ row. c.args.attributes.now ≡ attributes_of row)) (sym none) tt

pub returns-in-None-clause-back : goal.returns-in-None-clause-back
returns-in-None-clause-back c =
    let none = rw (c.as_slice.ensures.value, c.rows.view_is) at c.in-None.ensures.none in
    changed-none c.args.number (with_attributes c.args.attributes.now c.args.modified.now) c.args.rows.now none
