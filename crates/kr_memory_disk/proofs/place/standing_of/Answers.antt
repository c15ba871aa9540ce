use Rattle.std.proofs.Common.{◌+◌, sym, ◌∙◌, ap, subst, Some, arith}
use Rattle.std.proofs.lemmas.Option.{slice_get-get_or}
use Rattle.kr_memory_disk.proofs.PlaceLemmas.{StandsBefore, StandsBefore-none, StandsBefore-more, StandsBefore-all}
use Rattle.kr_memory_disk.proofs.place.standing_of.Goals as goal

pub loop-number-init : goal.loop-number-init
loop-number-init c = StandsBefore-none c.args.calls.now

-- one more call
pub loop-number-preserved : goal.loop-number-preserved
loop-number-preserved c =
    let call = c.index-calls-number.result in
    subst (StandsBefore c.args.calls.now (c.loop-number.number + 1)) (sym c.after-standing.ensures)
    (StandsBefore-more c.args.calls.now c.loop-number.number call c.loop-number.standing c.loop-number-test.true
    (slice_get-get_or c.args.calls.now c.loop-number.number call c.loop-number-test.true ∙ ap (λ r. Some r) (sym c.index-calls-number.is))
    (sym c.index-calls-number.is) c.loop-number.invariant)

pub returns : goal.returns
returns c = StandsBefore-all c.args.calls.now c.loop-number.number c.loop-number.standing (omega arith) c.loop-number.invariant
