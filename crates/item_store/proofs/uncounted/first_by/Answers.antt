use Rattle.std.proofs.Common.{sym, ◌∙◌, arith}
use Rattle.item_store.specs.Rows.{has_just, passes_at, row_at}
use Rattle.item_store.proofs.IndexLemmas.{first-found, none-more, none-left}
use Rattle.item_store.proofs.uncounted.first_by.Goals as goal

pub returns-then-has_just_at : goal.returns-then-has_just_at
returns-then-has_just_at g c =
    first-found (λ id. passes_at (has_just c.args.attributes.now) (row_at id c.args.rows.now)) c.args.ids.now c.loop-place.place c.at-id.result.0 (omega (arith, c.loop-place-test.true, c.len-place-end.ensures.value)) c.at-id.ensures.value c.loop-place.invariant (sym c.has_just_at.ensures ∙ c.if-has_just_at.true)

pub loop-place-preserved : goal.loop-place-preserved
loop-place-preserved g c =
    none-more (λ id. passes_at (has_just c.args.attributes.now) (row_at id c.args.rows.now)) c.args.ids.now c.loop-place.place c.at-id.result.0 (omega (arith, c.loop-place-test.true, c.len-place-end.ensures.value)) c.at-id.ensures.value c.loop-place.invariant (sym c.has_just_at.ensures ∙ c.if-has_just_at.false)

pub returns : goal.returns
returns g c =
    none-left (λ id. passes_at (has_just c.args.attributes.now) (row_at id c.args.rows.now)) c.args.ids.now c.loop-place.place (omega (arith, c.loop-place-test.false, c.len-place-end.ensures.value)) c.loop-place.invariant
