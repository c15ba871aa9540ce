use Rattle.std.proofs.Common.{◌≡◌, ℕ, add-zero, arith, sym, subst, take, ◌+◌}
use Rattle.std.proofs.lemmas.List.{take_all}
use Rattle.signal_fanout.specs.Outboxes.{count_to}
use Rattle.signal_fanout.specs.Boxes.{HoldsOf, IsReady}
use Rattle.signal_fanout.proofs.BoxLemmas.{same-changed, same-refl, same-then}
use Rattle.signal_fanout.proofs.ReadyLemmas.{count-taken}
use Rattle.signal_fanout.proofs.boxes.expect_each.Goals as goal

pub loop-sent-init : goal.loop-sent-init
loop-sent-init c = (λ count conn all. subst (λ (n : ℕ). HoldsOf (IsReady n) conn.0 c.args.boxes.now.entries) (sym (add-zero count)) all, same-refl c.args.boxes.now.entries)

-- so is the next one
pub loop-sent-preserved : goal.loop-sent-preserved
loop-sent-preserved c =
    let old = c.loop-sent.boxes.entries in
    let new = c.expect_one.new.boxes.entries in
    let outs = c.args.outs.now in
    let i = c.loop-sent.sent-index in (
      λ count conn all.
          subst (λ (n : ℕ). HoldsOf (IsReady n) conn.0 new) (count-taken conn outs i c.sent-item.result count (omega (arith, c.loop-sent-test.true)) (sym c.sent-item.is))
          (c.in_ok-expect_one.ensures.ready (count + count_to conn (take i outs)) conn (c.loop-sent.invariant.0 count conn all)),
      same-then c.args.boxes.now.entries old new c.loop-sent.invariant.1 (same-changed c.sent-item.result.to.0 old new c.expect_one.ensures.changes c.expect_one.ensures.kept),
    )

pub returns-in_err-expect_one-clause-same : goal.returns-in_err-expect_one-clause-same
returns-in_err-expect_one-clause-same c = same-then c.args.boxes.now.entries c.loop-sent.boxes.entries c.expect_one.new.boxes.entries c.loop-sent.invariant.1 (same-changed c.sent-item.result.to.0 c.loop-sent.boxes.entries c.expect_one.new.boxes.entries c.expect_one.ensures.changes c.expect_one.ensures.kept)

-- at the end all of them are
pub returns-clause-ready : goal.returns-clause-ready
returns-clause-ready c = λ count conn all.
    let outs = c.args.outs.now in
    let each : take c.loop-sent.sent-index outs ≡ outs = take_all c.loop-sent.sent-index outs (omega (arith, c.loop-sent-test.false)) in
    subst (λ these. HoldsOf (IsReady (count + count_to conn these)) conn.0 c.loop-sent.boxes.entries) each (c.loop-sent.invariant.0 count conn all)
