use Rattle.std.proofs.Common.{arith, sym, take}
use Rattle.signal_fanout.specs.declared.rows.Delivery.{Delivery}
use Rattle.signal_fanout.specs.Boxes.{HoldsOf, IsReady}
use Rattle.signal_fanout.proofs.BoxLemmas.{same-changed, same-refl, same-then}
use Rattle.signal_fanout.proofs.EachLemmas.{each-taken, each-weaker}
use Rattle.signal_fanout.proofs.boxes.expect_none_of.Goals as goal

pub loop-sent-init : goal.loop-sent-init
loop-sent-init c = (tt, λ other all. all, same-refl c.args.boxes.now.entries)

-- those so far stay so
pub loop-sent-preserved : goal.loop-sent-preserved
loop-sent-preserved c =
    let old = c.loop-sent.boxes.entries in
    let new = c.expect_none.new.boxes.entries in
    let so_far = each-weaker (λ (sent : Delivery). HoldsOf (IsReady 0) sent.to.0 old) (λ (sent : Delivery). HoldsOf (IsReady 0) sent.to.0 new)
    (λ sent all. c.expect_none.ensures.others sent.to.0 all) (take c.loop-sent.sent-index c.args.outs.now) c.loop-sent.invariant.0 in (
      each-taken (λ (sent : Delivery). HoldsOf (IsReady 0) sent.to.0 new) c.args.outs.now c.loop-sent.sent-index c.sent-item.result (omega (arith, c.loop-sent-test.true)) (sym c.sent-item.is) so_far c.expect_none.ensures.ready,
      λ other all. c.expect_none.ensures.others other (c.loop-sent.invariant.1 other all),
      same-then c.args.boxes.now.entries old new c.loop-sent.invariant.2 (same-changed c.sent-item.result.to.0 old new c.expect_none.ensures.changes c.expect_none.ensures.kept),
    )
