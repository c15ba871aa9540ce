use Rattle.std.proofs.Common.{ℕ, List, Ok, Err, subst, ◌∙◌}
use Rattle.kr_dialer.specs.Carrying.{link_of}
use Rattle.dbus_opening.specs.Opening.{Says}
use Rattle.dbus_opening.proofs.OpeningLemmas.{goes-dialled, goes-none, turned-begun, turned-on, unopened}
use Rattle.dbus_opening.proofs.opening.open_by.Goals as goal

-- the opening wasn't written
pub returns-in-Err : goal.returns-in-Err
returns-in-Err g c =
    let it = g.D.Dialer in
    let old = link_of it.dialled it.left it.written it.faults it.is_steady c.args.link.now in
    let now = link_of it.dialled it.left it.written it.faults it.is_steady c.say.new.link in
    unopened c.args.uid old now c.in-Err.refused (subst (λ (l : List ℕ). Says l old now (Err c.in-Err.refused)) (c.as_slice.ensures.value ∙ c.opening.ensures) c.in-Err.ensures)

-- it was
pub loop-init : goal.loop-init
loop-init g c =
    let it = g.D.Dialer in
    let old = link_of it.dialled it.left it.written it.faults it.is_steady c.args.link.now in
    let now = link_of it.dialled it.left it.written it.faults it.is_steady c.say.new.link in
    goes-none c.args.uid c.new-client.result.asked c.new-held.result.items old now c.new-client.ensures c.new-held.ensures.items
    (subst (λ (l : List ℕ). Says l old now (Ok tt)) (c.as_slice.ensures.value ∙ c.opening.ensures) c.in_default.ensures)

pub turn-requires-clause-has_dialled : goal.turn-requires-clause-has_dialled
turn-requires-clause-has_dialled g c =
    let it = g.D.Dialer in
    let old = link_of it.dialled it.left it.written it.faults it.is_steady c.args.link.now in
    let now = link_of it.dialled it.left it.written it.faults it.is_steady c.loop.link in
    goes-dialled c.args.uid c.loop.client.asked c.loop.held.items old now c.loop.invariant c.requires.has_dialled

-- messages have begun
pub returns-then-has_begun : goal.returns-then-has_begun
returns-then-has_begun g c =
    let it = g.D.Dialer in
    let old = link_of it.dialled it.left it.written it.faults it.is_steady c.args.link.now in
    let now = link_of it.dialled it.left it.written it.faults it.is_steady c.turn.new.link in
    turned-begun c.args.uid c.turn.new.client.asked c.turn.new.held.items c.new.result old now c.in-Ok.has_begun c.if-has_begun.true (c.in-Ok.ensures c.args.uid old c.loop.invariant) c.new.ensures

-- one line more
pub loop-preserved : goal.loop-preserved
loop-preserved g c =
    let it = g.D.Dialer in
    let old = link_of it.dialled it.left it.written it.faults it.is_steady c.args.link.now in
    let now = link_of it.dialled it.left it.written it.faults it.is_steady c.turn.new.link in
    turned-on c.args.uid c.turn.new.client.asked c.turn.new.held.items old now c.in-Ok.has_begun c.if-has_begun.false (c.in-Ok.ensures c.args.uid old c.loop.invariant)

-- the handshake ended
pub returns-in-Err-turn : goal.returns-in-Err-turn
returns-in-Err-turn g c =
    let it = g.D.Dialer in
    let old = link_of it.dialled it.left it.written it.faults it.is_steady c.args.link.now in
    c.in-Err-turn.ensures c.args.uid old c.loop.invariant
