use Rattle.std.proofs.Common.{◌<◌, ap, map, subst, sym, ◌∙◌}
use Rattle.std.specs.List.{AllByRecursion}
use Rattle.std.specs.Map.{keys_of}
use Rattle.std.proofs.lemmas.List.{map_push}
use Rattle.item_store.specs.Rows.{IsRising, Row, row_of}
use Rattle.item_store.proofs.RowLemmas.{rising-added}
use Rattle.item_store.proofs.rows.put_last.Goals as goal
use Rattle.item_store.proofs.rows.put_last.Goals.{in-Ok, in-Err}

pub invariant_of-rows : goal.invariant_of-rows
invariant_of-rows c =
    let items = c.rows.inside.rows.items in
    let row : Row = record { kind = c.args.kind; item = c.args.item } in
    let below = subst (λ rows. AllByRecursion (λ key. key < c.args.number) (keys_of rows)) (sym c.rows.view_is) c.requires in
    elim c.match-push.branch [
      | in-Ok w ↦ subst IsRising (sym (ap (map row_of) w.in-Ok.ensures.items ∙ map_push row_of items _)) (rising-added (map row_of items) c.args.number row below c.rows.invariant)
      | in-Err w ↦ subst IsRising (sym (ap (map row_of) w.in-Err.ensures.items)) c.rows.invariant
    ]
