use Rattle.std.proofs.Common.{ap, map, sym, subst, ◌∙◌}
use Rattle.std.specs.Option.{is_some}
use Rattle.item_store.specs.Rows.{IsRising, Row, Rows, row_at, row_of, rows_changed}
use Rattle.item_store.proofs.PlaceLemmas.{here, set-read}
use Rattle.item_store.proofs.RowLemmas.{changed-none, rising-changed}
use Rattle.item_store.proofs.rows.set_secret.Goals as goal

pub invariant_of-rows : goal.invariant_of-rows
invariant_of-rows c =
    let items = c.rows.inside.rows.items in
    let place = rw c.as_slice.ensures.value at c.in-Some.ensures.found in
    let set = set-read c.args.number (λ (row : Row). record row { item = record row.item { value = c.args.value; modified = c.args.now } }) c.set_value.new.item items c.in-Some.place c.index_mut.result.now c.rows.invariant place c.index_mut.ensures.value (λ i. record { kind = c.index_mut.result.now.1; item = c.set_value.ensures i }) in
    subst IsRising (sym set) (rising-changed c.args.number (λ (row : Row). record row { item = record row.item { value = c.args.value; modified = c.args.now } }) (map row_of items) c.rows.invariant)

pub returns-in-Some-clause-set : goal.returns-in-Some-clause-set
returns-in-Some-clause-set c =
    let items = c.rows.inside.rows.items in
    let place = rw c.as_slice.ensures.value at c.in-Some.ensures.found in
    set-read c.args.number (λ (row : Row). record row { item = record row.item { value = c.args.value; modified = c.args.now } }) c.set_value.new.item items c.in-Some.place c.index_mut.result.now c.rows.invariant place c.index_mut.ensures.value (λ i. record { kind = c.index_mut.result.now.1; item = c.set_value.ensures i })
    ∙ ap (rows_changed c.args.number (λ (row : Row). record row { item = record row.item { value = c.args.value; modified = c.args.now } })) c.rows.view_is

pub returns-in-Some-clause-there : goal.returns-in-Some-clause-there
returns-in-Some-clause-there c =
    let items = c.rows.inside.rows.items in
    let place = rw c.as_slice.ensures.value at c.in-Some.ensures.found in
    sym (ap is_some (here c.args.number items c.in-Some.place place.found c.rows.invariant place.at place.its)) ∙ ap (λ (rows : Rows). is_some (row_at c.args.number rows)) c.rows.view_is

pub returns-in-None-clause-set : goal.returns-in-None-clause-set
returns-in-None-clause-set c =
    let none = rw (c.as_slice.ensures.value, c.rows.view_is) at c.in-None.ensures.none in
    sym (changed-none c.args.number (λ (row : Row). record row { item = record row.item { value = c.args.value; modified = c.args.now } }) c.args.rows.now none)
