use Rattle.std.proofs.Common.{◌∷◌, subst, ℕ}
use Rattle.kr_base.specs.declared.ids.ConnId.{ConnId}
use Rattle.signal_fanout.specs.Outboxes.{with_one}
use Rattle.signal_fanout.specs.Boxes.{HoldsOf, IsReady}
use Rattle.signal_fanout.proofs.BoxLemmas.{OnOk-more, same-changed, same-then}
use Rattle.signal_fanout.proofs.ReadyLemmas.{expected-all, expected-room}
use Rattle.signal_fanout.proofs.boxes.reserve_for.Goals as goal

-- the reply and the others are expected one after the other
pub returns-clause-room : goal.returns-clause-room
returns-clause-room c =
    let start = c.expect_none_of.new.boxes.entries in
    let last = c.expect_each.new.boxes.entries in
    let outs = c.args.outs.now in
    let caller : ConnId = record { 0 = c.args.caller } in
    OnOk-more c.expect_each.result _ _
    (λ each reply.
    expected-room (record { to = caller; out = reply } ∷ outs) start last (c.expect_none_of.ensures.others c.args.caller c.expect_none.ensures.ready, c.expect_none_of.ensures.ready)
    (λ conn ready. subst (λ (n : ℕ). HoldsOf (IsReady n) conn.0 last) (expected-all caller conn reply outs) (each (with_one caller conn 0) conn (c.in_ok-expect_one.ensures.ready 0 conn ready))))
    c.expect_each.ensures.ready

pub returns-clause-same : goal.returns-clause-same
returns-clause-same c =
    let first = c.expect_none.new.boxes.entries in
    let second = c.expect_none_of.new.boxes.entries in
    let third = c.expect_one.new.boxes.entries in
    let start = c.args.boxes.now.entries in
    let two = same-then start first second (same-changed c.args.caller start first c.expect_none.ensures.changes c.expect_none.ensures.kept) c.expect_none_of.ensures.same in
    let three = same-then start second third two (same-changed c.args.caller second third c.expect_one.ensures.changes c.expect_one.ensures.kept) in
    same-then start third c.expect_each.new.boxes.entries three c.expect_each.ensures.same

pub returns-in_err-expect_one-clause-same : goal.returns-in_err-expect_one-clause-same
returns-in_err-expect_one-clause-same c =
    let first = c.expect_none.new.boxes.entries in
    let second = c.expect_none_of.new.boxes.entries in
    let third = c.expect_one.new.boxes.entries in
    let start = c.args.boxes.now.entries in
    let two = same-then start first second (same-changed c.args.caller start first c.expect_none.ensures.changes c.expect_none.ensures.kept) c.expect_none_of.ensures.same in
    same-then start second third two (same-changed c.args.caller second third c.expect_one.ensures.changes c.expect_one.ensures.kept)
