use Rattle.std.proofs.Common.{IfOk, IfErr, ap, ◌∙◌, subst}
use Rattle.service_desk.specs.service_events.specs.declared.event.Event.TheVariants as event
use Rattle.service_desk.specs.service_events.specs.declared.event.Output.TheVariants as output
use Rattle.service_desk.specs.service_events.specs.Fates.{is_steady}
use Rattle.service_desk.specs.Views.{View}
use Rattle.service_desk.specs.Places.{Extends}
use Rattle.shared_service.specs.Passes.{home_of, Seen, steady_or, spot, view_of, IsRefused}
use Rattle.shared_service.proofs.Ends.{end-some, done, steady-still, stands-view, event_if, fits-if, became-if}
use Rattle.shared_service.proofs.Calls.{joins-if, crowded-if}
use Rattle.shared_service.proofs.shared.SharedService.connect.Goals as goal

pub end-requires-clause-ended : goal.end-requires-clause-ended
end-requires-clause-ended g c =
    let e = c.enter-kept.ensures in let service = c.enter-kept.result.service.value.history in
    end-some c.pass.inside.inner c.enter-kept.new.pass e.between e.is c.pass.invariant service (λ start at. (e.stands start at).history) (event_if (λ conn. event.Connect conn) c.join-joined.result) c.join-joined.new.self.history c.total-count.result (became-if (λ conn. event.Connect conn) service c.join-joined.new.self.history c.join-joined.result (rw c.deref_mut.ensures.value at c.join-joined.ensures.stores) (rw c.deref_mut.ensures.value at c.join-joined.ensures.unchanged) c.join-joined.ensures.history) c.total-count.ensures.count

pub end-requires-clause-steady : goal.end-requires-clause-steady
end-requires-clause-steady g c =
    let e = c.enter-kept.ensures in
    steady-still c.pass.inside.inner c.enter-kept.new.pass e.between e.is c.pass.invariant _ (λ start at. (e.stands start at).steady) _ (ap (is_steady g.F.Folder.is_steady g.F.Cell.Slot.is_steady) (rw c.deref_mut.ensures.value at c.join-joined.ensures.disk))

pub invariant_of-pass : goal.invariant_of-pass
invariant_of-pass g c =
    let e = c.enter-kept.ensures in let service = c.enter-kept.result.service.value.history in
    (done c.pass.inside.inner c.enter-kept.new.pass e.between e.is c.pass.invariant service (λ start at. (e.stands start at).history) (event_if (λ conn. event.Connect conn) c.join-joined.result) c.join-joined.new.self.history c.total-count.result c.end.new.inner (fits-if (λ conn. event.Connect conn) service c.join-joined.new.self.history c.join-joined.result (rw c.deref_mut.ensures.value at c.join-joined.ensures.stores)) (became-if (λ conn. event.Connect conn) service c.join-joined.new.self.history c.join-joined.result (rw c.deref_mut.ensures.value at c.join-joined.ensures.stores) (rw c.deref_mut.ensures.value at c.join-joined.ensures.unchanged) c.join-joined.ensures.history) c.total-count.ensures.count c.end.ensures.same c.end.ensures.recorded).0

pub returns-clause-same : goal.returns-clause-same
returns-clause-same g c =
    let e = c.enter-kept.ensures in let service = c.enter-kept.result.service.value.history in
    (done c.pass.inside.inner c.enter-kept.new.pass e.between e.is c.pass.invariant service (λ start at. (e.stands start at).history) (event_if (λ conn. event.Connect conn) c.join-joined.result) c.join-joined.new.self.history c.total-count.result c.end.new.inner (fits-if (λ conn. event.Connect conn) service c.join-joined.new.self.history c.join-joined.result (rw c.deref_mut.ensures.value at c.join-joined.ensures.stores)) (became-if (λ conn. event.Connect conn) service c.join-joined.new.self.history c.join-joined.result (rw c.deref_mut.ensures.value at c.join-joined.ensures.stores) (rw c.deref_mut.ensures.value at c.join-joined.ensures.unchanged) c.join-joined.ensures.history) c.total-count.ensures.count c.end.ensures.same c.end.ensures.recorded).1 ∙ ap (λ (s : Seen). s.home) c.pass.view_is

pub returns-clause-steady : goal.returns-clause-steady
returns-clause-steady g c =
    let e = c.enter-kept.ensures in let service = c.enter-kept.result.service.value.history in
    (done c.pass.inside.inner c.enter-kept.new.pass e.between e.is c.pass.invariant service (λ start at. (e.stands start at).history) (event_if (λ conn. event.Connect conn) c.join-joined.result) c.join-joined.new.self.history c.total-count.result c.end.new.inner (fits-if (λ conn. event.Connect conn) service c.join-joined.new.self.history c.join-joined.result (rw c.deref_mut.ensures.value at c.join-joined.ensures.stores)) (became-if (λ conn. event.Connect conn) service c.join-joined.new.self.history c.join-joined.result (rw c.deref_mut.ensures.value at c.join-joined.ensures.stores) (rw c.deref_mut.ensures.value at c.join-joined.ensures.unchanged) c.join-joined.ensures.history) c.total-count.ensures.count c.end.ensures.same c.end.ensures.recorded).3 ∙ ap (λ (s : Seen). s.steady) c.pass.view_is

pub returns-clause-joined : goal.returns-clause-joined
returns-clause-joined g c =
    let e = c.enter-kept.ensures in let service = c.enter-kept.result.service.value.history in
    let last = (done c.pass.inside.inner c.enter-kept.new.pass e.between e.is c.pass.invariant service (λ start at. (e.stands start at).history) (event_if (λ conn. event.Connect conn) c.join-joined.result) c.join-joined.new.self.history c.total-count.result c.end.new.inner (fits-if (λ conn. event.Connect conn) service c.join-joined.new.self.history c.join-joined.result (rw c.deref_mut.ensures.value at c.join-joined.ensures.stores)) (became-if (λ conn. event.Connect conn) service c.join-joined.new.self.history c.join-joined.result (rw c.deref_mut.ensures.value at c.join-joined.ensures.stores) (rw c.deref_mut.ensures.value at c.join-joined.ensures.unchanged) c.join-joined.ensures.history) c.total-count.ensures.count c.end.ensures.same c.end.ensures.recorded).2 in
    let view : View = view_of c.pass.inside.inner in
    let steady = steady_or c.pass.inside.inner.start in
    let stands = stands-view c.pass.inside.inner c.enter-kept.new.pass e.between e.is c.pass.invariant service (λ start at. (e.stands start at).history) in
    subst (λ (s : Seen). IfOk c.join-joined.result (λ conn. Extends (spot conn s.home s.steady s.view) (spot conn s.home s.steady (view_of c.end.new.inner)) (event.Connect conn) (output.Joined conn))) c.pass.view_is
    (joins-if (home_of c.pass.inside.inner) steady view (view_of c.end.new.inner) e.between service stands c.join-joined.new.self.history c.join-joined.result (rw c.deref_mut.ensures.value at c.join-joined.ensures.stores) last)

pub returns-clause-refused : goal.returns-clause-refused
returns-clause-refused g c =
    let e = c.enter-kept.ensures in let service = c.enter-kept.result.service.value.history in
    let last = (done c.pass.inside.inner c.enter-kept.new.pass e.between e.is c.pass.invariant service (λ start at. (e.stands start at).history) (event_if (λ conn. event.Connect conn) c.join-joined.result) c.join-joined.new.self.history c.total-count.result c.end.new.inner (fits-if (λ conn. event.Connect conn) service c.join-joined.new.self.history c.join-joined.result (rw c.deref_mut.ensures.value at c.join-joined.ensures.stores)) (became-if (λ conn. event.Connect conn) service c.join-joined.new.self.history c.join-joined.result (rw c.deref_mut.ensures.value at c.join-joined.ensures.stores) (rw c.deref_mut.ensures.value at c.join-joined.ensures.unchanged) c.join-joined.ensures.history) c.total-count.ensures.count c.end.ensures.same c.end.ensures.recorded).2 in
    let view : View = view_of c.pass.inside.inner in
    let steady = steady_or c.pass.inside.inner.start in
    let stands = stands-view c.pass.inside.inner c.enter-kept.new.pass e.between e.is c.pass.invariant service (λ start at. (e.stands start at).history) in
    subst (λ (s : Seen). IfErr c.join-joined.result (λ refused. IsRefused s.home s.steady refused s.view (view_of c.end.new.inner))) c.pass.view_is
    (crowded-if (home_of c.pass.inside.inner) steady view (view_of c.end.new.inner) e.between service stands c.join-joined.result (rw c.deref_mut.ensures.value at c.join-joined.ensures.spent) (rw c.deref_mut.ensures.value at c.join-joined.ensures.crowded) (rw c.deref_mut.ensures.value at c.join-joined.ensures.not_spent) (rw c.deref_mut.ensures.value at c.join-joined.ensures.memory) last)
