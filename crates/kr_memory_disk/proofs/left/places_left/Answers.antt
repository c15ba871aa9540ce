use Rattle.std.proofs.Common.{◌+◌, sym, ◌∙◌, ap, subst, Some, arith}
use Rattle.std.proofs.lemmas.Option.{slice_get-get_or}
use Rattle.kr_memory_disk.specs.Place.{standing_after}
use Rattle.kr_memory_disk.specs.Left.{LieAt}
use Rattle.kr_memory_disk.proofs.LeftLemmas.{LieBefore, LieBefore-more, LieBefore-all}
use Rattle.kr_memory_disk.proofs.left.places_left.Goals as goal

-- one more call
pub loop-number-preserved : goal.loop-number-preserved
loop-number-preserved c =
    let call = c.index-calls-number.result in
    subst (λ standing. LieBefore c.args.calls.now (c.loop-number.number + 1) standing c.count.new.places.items) (sym c.after-standing.ensures)
    (subst (λ places. LieBefore c.args.calls.now (c.loop-number.number + 1) (standing_after call.call call.end c.loop-number.number c.loop-number.standing) places) (sym c.in_ok-count.ensures)
    (LieBefore-more c.args.calls.now c.loop-number.number call c.loop-number.standing c.loop-number.places.items c.loop-number-test.true
    (slice_get-get_or c.args.calls.now c.loop-number.number call c.loop-number-test.true ∙ ap (λ r. Some r) (sym c.index-calls-number.is))
    (sym c.index-calls-number.is) c.loop-number.invariant))

-- what the name stands for comes last
pub returns-clause-lie : goal.returns-clause-lie
returns-clause-lie c = subst (λ places. LieAt c.args.calls.now places) (sym c.in_ok-push.ensures.items)
    (LieBefore-all c.args.calls.now c.loop-number.number c.loop-number.standing c.loop-number.places.items (omega arith) c.loop-number.invariant)
