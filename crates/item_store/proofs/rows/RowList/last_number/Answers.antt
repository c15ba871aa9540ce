use Rattle.std.proofs.Common.{ap, ◌∙◌}
use Rattle.item_store.specs.Rows.{last_id}
use Rattle.item_store.proofs.PlaceLemmas.{last-none, last-place}
use Rattle.item_store.proofs.rows.RowList.last_number.Goals as goal

pub returns-in-Some : goal.returns-in-Some
returns-in-Some c =
    let items = c.self.inside.rows.items in
    let at = rw (c.deref.ensures.value, c.in-Some.is) at c.last.ensures.value in
    last-place items c.in-Some.row.now at ∙ ap last_id c.self.view_is

pub returns-in-None : goal.returns-in-None
returns-in-None c =
    let items = c.self.inside.rows.items in
    let at = rw (c.deref.ensures.value, c.in-None.is) at c.last.ensures.value in
    last-none items at ∙ ap last_id c.self.view_is
