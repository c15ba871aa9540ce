use Rattle.std.proofs.Common.{◌≡◌, Some, ap, sym, ◌∙◌}
use Rattle.item_store.specs.Rows.{kept_of, row_at}
use Rattle.item_store.proofs.PlaceLemmas.{Given, found-read, found-row}
use Rattle.item_store.proofs.rows.RowList.get.Goals as goal

pub returns-in-Some-clause-row : goal.returns-in-Some-clause-row
returns-in-Some-clause-row c =
    let items = c.self.inside.rows.items in
    let place = rw c.as_slice.ensures.value at c.in-Some.ensures.found in
    ap (λ x. Some (kept_of x)) c.index.ensures ∙ sym (found-row c.args.number items c.in-Some.place c.self.invariant place c.index.result.now) ∙ ap (row_at c.args.number) c.self.view_is

pub returns-in-Some-clause-id : goal.returns-in-Some-clause-id
returns-in-Some-clause-id c =
    let items = c.self.inside.rows.items in
    let place = rw c.as_slice.ensures.value at c.in-Some.ensures.found in
    let read : place.found ≡ c.index.result.now = found-read items c.in-Some.place c.index.result.now c.args.number place c.index.ensures in
    sym (ap (λ (item : Given). item.0.0) read) ∙ place.its
