use Rattle.std.proofs.Common.{◌≡◌, length, arith, subst, sym, ap, rules}
use Rattle.signal_fanout.specs.Outboxes.{HasRoomFor, handed}
use Rattle.signal_fanout.proofs.RoomLemmas.{first-room}
use Rattle.signal_fanout.proofs.outboxes.Outboxes.deliver.Goals as goal

pub loop-sent-init : goal.loop-sent-init
loop-sent-init c =
    let items : c.into_iter-sent-iterator.result.rest.items ≡ c.args.outs.items = search rules in
    let count : length c.into_iter-sent-iterator.result.rest.items ≡ c.into_iter-sent-iterator.result.rest.len = search rules in
    (tt, tt, count, subst (λ these. HasRoomFor these c.args.self.now.rooms) (sym items) c.requires, ap (λ these. handed these c.args.self.now.rows) items)

-- there is room for the first one
pub push-requires : goal.push-requires
push-requires c =
    let room = subst (λ these. HasRoomFor these c.loop-sent.self.rooms) c.in-Some.ensures.steps.0 c.loop-sent.invariant.3 in
    first-room c.in-Some.sent c.next.new.self.rest.items c.loop-sent.self.rooms room

-- and then for the others
pub loop-sent-preserved : goal.loop-sent-preserved
loop-sent-preserved c =
    let sent = c.in-Some.sent in
    let left = c.next.new.self.rest.items in
    let room = subst (λ these. HasRoomFor these c.loop-sent.self.rooms) c.in-Some.ensures.steps.0 c.loop-sent.invariant.3 in
    let had = subst (λ these. handed these c.loop-sent.self.rows ≡ handed c.args.outs.items c.args.self.now.rows) c.in-Some.ensures.steps.0 c.loop-sent.invariant.4 in (
      tt,
      tt,
      omega (arith, ap length c.in-Some.ensures.steps.0, c.in-Some.ensures.steps.1, c.loop-sent.invariant.2),
      c.push.ensures.room left room,
      rw (← c.push.ensures.rows) at had,
    )
