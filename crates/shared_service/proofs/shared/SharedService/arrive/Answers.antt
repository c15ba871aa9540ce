use Rattle.std.proofs.Common.{IfOk, OnErr, IfErr, ap, ◌∙◌, subst}
use Rattle.service_desk.specs.Places.{Looks}
use Rattle.service_desk.specs.Calls.{Arrives, IsRefusal}
use Rattle.shared_service.specs.Passes.{Seen, told, spot, view_of}
use Rattle.shared_service.proofs.Recording.{arrive-calls, as-steady}
use Rattle.shared_service.proofs.shared.SharedService.arrive.Goals as goal

-- how the turn may end
pub end-requires-clause-ended : goal.end-requires-clause-ended
end-requires-clause-ended g c =
    let said = rw c.deref_mut.ensures.value at c.arrive-arrived.ensures in
    let call = arrive-calls g.F.Folder.is_steady g.F.Cell.Slot.is_steady c.pass.inside.inner c.enter-kept.new.pass c.enter-kept.result.service.value c.arrive-arrived.new.self _ _ c.pass.invariant c.enter-kept.ensures.between c.enter-kept.ensures.is c.enter-kept.ensures.stands _
    (record { conn = c.args.conn; request = c.args.request; now = c.args.now; salt = c.args.salt }) c.arrive-arrived.result said.stores
    (record { spent = said.spent; not_spent = said.not_spent; gone = said.gone; memory = said.memory; unchanged = said.unchanged; history = said.history }) in
    call.ends c.total-count.result c.total-count.ensures.count

pub end-requires-clause-steady : goal.end-requires-clause-steady
end-requires-clause-steady g c =
    as-steady g.F.Folder.is_steady g.F.Cell.Slot.is_steady c.pass.inside.inner c.enter-kept.new.pass c.enter-kept.result.service.value c.arrive-arrived.new.self _ _ c.pass.invariant c.enter-kept.ensures.between c.enter-kept.ensures.is c.enter-kept.ensures.stands
    (rw c.deref_mut.ensures.value at c.arrive-arrived.ensures.steady)

-- what the pass is then
pub invariant_of-pass : goal.invariant_of-pass
invariant_of-pass g c =
    let said = rw c.deref_mut.ensures.value at c.arrive-arrived.ensures in
    let call = arrive-calls g.F.Folder.is_steady g.F.Cell.Slot.is_steady c.pass.inside.inner c.enter-kept.new.pass c.enter-kept.result.service.value c.arrive-arrived.new.self _ _ c.pass.invariant c.enter-kept.ensures.between c.enter-kept.ensures.is c.enter-kept.ensures.stands _
    (record { conn = c.args.conn; request = c.args.request; now = c.args.now; salt = c.args.salt }) c.arrive-arrived.result said.stores
    (record { spent = said.spent; not_spent = said.not_spent; gone = said.gone; memory = said.memory; unchanged = said.unchanged; history = said.history }) in
    let called = call.called c.total-count.result c.end.new.inner c.total-count.ensures.count c.end.ensures.same c.end.ensures.recorded in
    called.idle

pub returns-clause-same : goal.returns-clause-same
returns-clause-same g c =
    let said = rw c.deref_mut.ensures.value at c.arrive-arrived.ensures in
    let call = arrive-calls g.F.Folder.is_steady g.F.Cell.Slot.is_steady c.pass.inside.inner c.enter-kept.new.pass c.enter-kept.result.service.value c.arrive-arrived.new.self _ _ c.pass.invariant c.enter-kept.ensures.between c.enter-kept.ensures.is c.enter-kept.ensures.stands _
    (record { conn = c.args.conn; request = c.args.request; now = c.args.now; salt = c.args.salt }) c.arrive-arrived.result said.stores
    (record { spent = said.spent; not_spent = said.not_spent; gone = said.gone; memory = said.memory; unchanged = said.unchanged; history = said.history }) in
    let called = call.called c.total-count.result c.end.new.inner c.total-count.ensures.count c.end.ensures.same c.end.ensures.recorded in
    called.home ∙ ap (λ (s : Seen). s.home) c.pass.view_is

pub returns-clause-steady : goal.returns-clause-steady
returns-clause-steady g c =
    let said = rw c.deref_mut.ensures.value at c.arrive-arrived.ensures in
    let call = arrive-calls g.F.Folder.is_steady g.F.Cell.Slot.is_steady c.pass.inside.inner c.enter-kept.new.pass c.enter-kept.result.service.value c.arrive-arrived.new.self _ _ c.pass.invariant c.enter-kept.ensures.between c.enter-kept.ensures.is c.enter-kept.ensures.stands _
    (record { conn = c.args.conn; request = c.args.request; now = c.args.now; salt = c.args.salt }) c.arrive-arrived.result said.stores
    (record { spent = said.spent; not_spent = said.not_spent; gone = said.gone; memory = said.memory; unchanged = said.unchanged; history = said.history }) in
    let called = call.called c.total-count.result c.end.new.inner c.total-count.ensures.count c.end.ensures.same c.end.ensures.recorded in
    called.steady ∙ ap (λ (s : Seen). s.steady) c.pass.view_is

pub returns-clause-recorded : goal.returns-clause-recorded
returns-clause-recorded g c =
    let said = rw c.deref_mut.ensures.value at c.arrive-arrived.ensures in
    let call = arrive-calls g.F.Folder.is_steady g.F.Cell.Slot.is_steady c.pass.inside.inner c.enter-kept.new.pass c.enter-kept.result.service.value c.arrive-arrived.new.self _ _ c.pass.invariant c.enter-kept.ensures.between c.enter-kept.ensures.is c.enter-kept.ensures.stands _
    (record { conn = c.args.conn; request = c.args.request; now = c.args.now; salt = c.args.salt }) c.arrive-arrived.result said.stores
    (record { spent = said.spent; not_spent = said.not_spent; gone = said.gone; memory = said.memory; unchanged = said.unchanged; history = said.history }) in
    let called = call.called c.total-count.result c.end.new.inner c.total-count.ensures.count c.end.ensures.same c.end.ensures.recorded in
    subst (λ (s : Seen). IfOk c.arrive-arrived.result (Arrives (spot c.args.conn s.home s.steady s.view) (spot c.args.conn s.home s.steady (view_of c.end.new.inner)) (record { conn = c.args.conn; request = c.args.request; now = c.args.now; salt = c.args.salt }))) c.pass.view_is called.recorded

pub returns-clause-looked : goal.returns-clause-looked
returns-clause-looked g c =
    let said = rw c.deref_mut.ensures.value at c.arrive-arrived.ensures in
    let call = arrive-calls g.F.Folder.is_steady g.F.Cell.Slot.is_steady c.pass.inside.inner c.enter-kept.new.pass c.enter-kept.result.service.value c.arrive-arrived.new.self _ _ c.pass.invariant c.enter-kept.ensures.between c.enter-kept.ensures.is c.enter-kept.ensures.stands _
    (record { conn = c.args.conn; request = c.args.request; now = c.args.now; salt = c.args.salt }) c.arrive-arrived.result said.stores
    (record { spent = said.spent; not_spent = said.not_spent; gone = said.gone; memory = said.memory; unchanged = said.unchanged; history = said.history }) in
    let called = call.called c.total-count.result c.end.new.inner c.total-count.ensures.count c.end.ensures.same c.end.ensures.recorded in
    subst (λ (s : Seen). OnErr c.arrive-arrived.result (Looks (spot c.args.conn s.home s.steady s.view) (spot c.args.conn s.home s.steady (view_of c.end.new.inner)))) c.pass.view_is called.looked

pub returns-clause-cause : goal.returns-clause-cause
returns-clause-cause g c =
    let said = rw c.deref_mut.ensures.value at c.arrive-arrived.ensures in
    let call = arrive-calls g.F.Folder.is_steady g.F.Cell.Slot.is_steady c.pass.inside.inner c.enter-kept.new.pass c.enter-kept.result.service.value c.arrive-arrived.new.self _ _ c.pass.invariant c.enter-kept.ensures.between c.enter-kept.ensures.is c.enter-kept.ensures.stands _
    (record { conn = c.args.conn; request = c.args.request; now = c.args.now; salt = c.args.salt }) c.arrive-arrived.result said.stores
    (record { spent = said.spent; not_spent = said.not_spent; gone = said.gone; memory = said.memory; unchanged = said.unchanged; history = said.history }) in
    let called = call.called c.total-count.result c.end.new.inner c.total-count.ensures.count c.end.ensures.same c.end.ensures.recorded in
    subst (λ (s : Seen). IfErr c.arrive-arrived.result (λ refused. IsRefusal refused (told c.args.conn s.home s.steady (view_of c.end.new.inner)))) c.pass.view_is called.cause
