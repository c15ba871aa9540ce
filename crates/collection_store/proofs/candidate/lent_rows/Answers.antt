use Rattle.std.proofs.Common.{◌≡◌, ◌+◌, ◌++◌, ◌∷◌, ◌∙◌, [], ap, drop, map, refl, subst, sym, append_assoc, arith}
use Rattle.std.proofs.lemmas.List.{append-nil, drop_all, drop_more}
use Rattle.std.proofs.lemmas.Map.Keys.{sorted_from_strictly_increasing}
use Rattle.item_store.specs.Rows.{Rows, row_of}
use Rattle.collection_store.specs.Preparing.{looked, lent_at}
use Rattle.collection_store.specs.State.{ids_of}
use Rattle.collection_store.proofs.LentLemmas.{IsLeft, none_looked, step}
use Rattle.collection_store.proofs.PreparedLemmas.{see}
use Rattle.collection_store.proofs.candidate.lent_rows.Goals as goal

pub loop-row-init : goal.loop-row-init
loop-row-init c =
    rw (c.as_slice-rows.ensures.rows, c.in_ok-lent.ensures.items) (
      refl,
      record {
        rising = sorted_from_strictly_increasing (ids_of c.args.items.now) c.requires.rising;
        keys = c.as_slice-rows.ensures.rising;
        there = c.requires.there;
      },
    )

pub loop-row-preserved : goal.loop-row-preserved
loop-row-preserved c =
    let had = map see c.loop-row.lent.items in
    let rows = c.as_slice-rows.result.now in
    let place = c.loop-row.row-index in
    let row = c.row-item.result in
    let rest : Rows = map row_of (drop (place + 1) rows) in
    let next : map row_of (drop place rows) ≡ row_of row ∷ rest = ap (map row_of) (drop_more rows place row (omega arith) ∙ ap (λ x. x ∷ drop (place + 1) rows) (sym c.row-item.is)) in
    let left = subst (λ es. IsLeft c.loop-row.left.now es) next c.loop-row.invariant.1 in
    let stepped = step c.loop-row.left.now (row_of row) rest left in
    let lent = lent_at c.loop-row.left.now row.0.0 row.2 in (
      ap (λ l. l ++ looked c.in_ok-left.left.now rest) c.in_ok-left.ensures.put
          ∙ append_assoc had lent (looked c.in_ok-left.left.now rest)
          ∙ ap (λ l. had ++ (lent ++ looked l rest)) c.in_ok-left.ensures.left
          ∙ ap (λ l. had ++ l) (sym stepped.0)
          ∙ ap (λ es. had ++ looked c.loop-row.left.now es) (sym next)
          ∙ c.loop-row.invariant.0,
      subst (λ l. IsLeft l rest) (sym c.in_ok-left.ensures.left) stepped.1,
    )

pub returns : goal.returns
returns c =
    let had = map see c.loop-row.lent.items in
    let rows = c.as_slice-rows.result.now in
    let none : map row_of (drop c.loop-row.row-index rows) ≡ [] = ap (map row_of) (drop_all c.loop-row.row-index rows (omega arith)) in
    sym (append-nil had)
    ∙ ap (λ l. had ++ l) (sym (none_looked c.loop-row.left.now))
    ∙ ap (λ es. had ++ looked c.loop-row.left.now es) (sym none)
    ∙ c.loop-row.invariant.0
