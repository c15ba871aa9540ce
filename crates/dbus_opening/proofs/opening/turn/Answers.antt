use Rattle.std.proofs.Common.{ℕ, List, drop, Ok, Err, subst}
use Rattle.dbus_auth.specs.Answers.{data_line}
use Rattle.dbus_auth_client.specs.Hearing.{talk}
use Rattle.kr_dialer.specs.Carrying.{link_of}
use Rattle.dbus_opening.specs.Opening.{Says}
use Rattle.dbus_opening.proofs.OpeningLemmas.{begins, goes-data, goes-less, goes-more, refuses, unbegun-said, unsaid}
use Rattle.dbus_opening.proofs.opening.turn.Goals as goal

-- no more was read
pub returns-in-Err : goal.returns-in-Err
returns-in-Err g c =
    let it = g.D.Dialer in
    let now = link_of it.dialled it.left it.written it.faults it.is_steady c.args.link.now in
    let next = link_of it.dialled it.left it.written it.faults it.is_steady c.hold_more.new.link in
    let turn = rw c.as_slice.ensures.value at c.in-Waits.ensures in
    λ uid start so. goes-less uid c.args.client.now.asked c.args.held.now.items c.hold_more.new.held.items start now next c.in-Err.refused so turn.1 c.in-Err.ensures

-- more was
pub returns-in_default : goal.returns-in_default
returns-in_default g c =
    let it = g.D.Dialer in
    let now = link_of it.dialled it.left it.written it.faults it.is_steady c.args.link.now in
    let next = link_of it.dialled it.left it.written it.faults it.is_steady c.hold_more.new.link in
    let turn = rw c.as_slice.ensures.value at c.in-Waits.ensures in
    λ uid start so. goes-more uid c.args.client.now.asked c.turn.new.self.asked c.args.held.now.items c.hold_more.new.held.items start now next so turn.0 turn.1 c.in_default.ensures

-- DATA wasn't answered
pub returns-in-Err-say : goal.returns-in-Err-say
returns-in-Err-say g c =
    let it = g.D.Dialer in
    let now = link_of it.dialled it.left it.written it.faults it.is_steady c.args.link.now in
    let next = link_of it.dialled it.left it.written it.faults it.is_steady c.say.new.link in
    let turn = rw c.as_slice.ensures.value at c.in-SaysData.ensures in
    λ uid start so. unsaid uid c.args.client.now.asked c.args.held.now.items data_line (talk c.turn.new.self.asked (drop c.in-SaysData.size c.args.held.now.items)) start now next
    c.in-Err-say.refused so turn.1 (subst (λ (l : List ℕ). Says l now next (Err c.in-Err-say.refused)) c.data_line.ensures c.in-Err-say.ensures)

-- it was
pub returns-in_default-say : goal.returns-in_default-say
returns-in_default-say g c =
    let it = g.D.Dialer in
    let now = link_of it.dialled it.left it.written it.faults it.is_steady c.args.link.now in
    let next = link_of it.dialled it.left it.written it.faults it.is_steady c.say.new.link in
    let turn = rw c.as_slice.ensures.value at c.in-SaysData.ensures in
    λ uid start so. goes-data uid c.args.client.now.asked c.turn.new.self.asked c.args.held.now.items c.remove_front.new.bytes.items (drop c.in-SaysData.size c.args.held.now.items) start now
    next so turn.1 c.remove_front.ensures (subst (λ (l : List ℕ). Says l now next (Ok tt)) c.data_line.ensures c.in_default-say.ensures)

-- BEGIN wasn't said
pub returns-in-Err-say-2 : goal.returns-in-Err-say-2
returns-in-Err-say-2 g c =
    let it = g.D.Dialer in
    let now = link_of it.dialled it.left it.written it.faults it.is_steady c.args.link.now in
    let next = link_of it.dialled it.left it.written it.faults it.is_steady c.say-in-Begins.new.link in
    let turn = rw c.as_slice.ensures.value at c.in-Begins.ensures in
    λ uid start so. unbegun-said uid c.args.client.now.asked c.args.held.now.items _ _ start now next c.in-Err-say-2.refused so turn.1 (subst (λ (l : List ℕ). Says l now next (Err c.in-Err-say-2.refused)) c.begin_line.ensures c.in-Err-say-2.ensures)

-- it was
pub returns-in_default-say-2 : goal.returns-in_default-say-2
returns-in_default-say-2 g c =
    let it = g.D.Dialer in
    let now = link_of it.dialled it.left it.written it.faults it.is_steady c.args.link.now in
    let next = link_of it.dialled it.left it.written it.faults it.is_steady c.say-in-Begins.new.link in
    let turn = rw c.as_slice.ensures.value at c.in-Begins.ensures in
    λ uid start so. begins uid c.args.client.now.asked c.args.held.now.items c.remove_front-in-Begins.new.bytes.items _ _ start now next so turn.1 c.remove_front-in-Begins.ensures
    (subst (λ (l : List ℕ). Says l now next (Ok tt)) c.begin_line.ensures c.in_default-say-2.ensures)

-- the bus refused
pub returns-in-Refused : goal.returns-in-Refused
returns-in-Refused g c =
    let it = g.D.Dialer in
    let now = link_of it.dialled it.left it.written it.faults it.is_steady c.args.link.now in
    let turn = rw c.as_slice.ensures.value at c.in-Refused.ensures in
    λ uid start so. refuses uid c.args.client.now.asked c.args.held.now.items start now c.in-Refused.fault so turn
