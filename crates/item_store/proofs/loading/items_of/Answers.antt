use Rattle.std.proofs.Common.{◌≡◌, [], drop, map, sym, ◌∙◌, arith}
use Rattle.std.proofs.lemmas.List.{append-nil, drop_all}
use Rattle.item_store.specs.Rows.{given_of}
use Rattle.item_store.proofs.PlaceLemmas.{by-row}
use Rattle.item_store.proofs.loading.items_of.Goals as goal

pub returns : goal.returns
returns c =
    let none : drop c.loop-row.row-index c.args.rows.now ≡ [] = drop_all c.loop-row.row-index c.args.rows.now (omega arith) in
    let all = rw none at c.loop-row.invariant in
    sym (append-nil (map given_of c.loop-row.items.items)) ∙ all ∙ by-row c.args.rows.now
