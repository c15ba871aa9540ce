use Rattle.std.proofs.Common.{refl, sym, ap, ◌∙◌, subst}
use Rattle.service_desk.specs.service_events.specs.Fates.{is_steady}
use Rattle.service_history.specs.History.{told}
use Rattle.service_desk.specs.Views.{View}
use Rattle.service_desk.specs.Calls.{Leaves}
use Rattle.shared_service.specs.Passes.{home_of, Seen, steady_or, spot, view_of}
use Rattle.shared_service.proofs.Ends.{end-some, done, steady-still, stands-view, became-with, left_event, left-some, left-fits}
use Rattle.shared_service.proofs.Calls.{leaves}
use Rattle.shared_service.proofs.shared.SharedService.leave.Goals as goal

pub end-requires-clause-ended : goal.end-requires-clause-ended
end-requires-clause-ended g c =
    let e = c.enter-kept.ensures in let service = c.enter-kept.result.service.value.history in
    end-some c.pass.inside.inner c.enter-kept.new.pass e.between e.is c.pass.invariant service (λ start at. (e.stands start at).history) (left_event c.args.conn (told c.args.conn service)) c.leave.new.self.history c.total-count.result (became-with service c.leave.new.self.history (left_event c.args.conn (told c.args.conn service)) (left-fits c.args.conn service (told c.args.conn service) refl) ((rw c.deref_mut.ensures.value at c.leave.ensures.recorded) ∙ left-some c.args.conn service (told c.args.conn service)) c.leave.ensures.history) c.total-count.ensures.count

pub end-requires-clause-steady : goal.end-requires-clause-steady
end-requires-clause-steady g c =
    let e = c.enter-kept.ensures in
    steady-still c.pass.inside.inner c.enter-kept.new.pass e.between e.is c.pass.invariant _ (λ start at. (e.stands start at).steady) _ (ap (is_steady g.F.Folder.is_steady g.F.Cell.Slot.is_steady) (rw c.deref_mut.ensures.value at c.leave.ensures.disk))

pub invariant_of-pass : goal.invariant_of-pass
invariant_of-pass g c =
    let e = c.enter-kept.ensures in let service = c.enter-kept.result.service.value.history in
    (done c.pass.inside.inner c.enter-kept.new.pass e.between e.is c.pass.invariant service (λ start at. (e.stands start at).history) (left_event c.args.conn (told c.args.conn service)) c.leave.new.self.history c.total-count.result c.end.new.inner (left-fits c.args.conn service (told c.args.conn service) refl) (became-with service c.leave.new.self.history (left_event c.args.conn (told c.args.conn service)) (left-fits c.args.conn service (told c.args.conn service) refl) ((rw c.deref_mut.ensures.value at c.leave.ensures.recorded) ∙ left-some c.args.conn service (told c.args.conn service)) c.leave.ensures.history) c.total-count.ensures.count c.end.ensures.same c.end.ensures.recorded).0

pub returns-clause-same : goal.returns-clause-same
returns-clause-same g c =
    let e = c.enter-kept.ensures in let service = c.enter-kept.result.service.value.history in
    (done c.pass.inside.inner c.enter-kept.new.pass e.between e.is c.pass.invariant service (λ start at. (e.stands start at).history) (left_event c.args.conn (told c.args.conn service)) c.leave.new.self.history c.total-count.result c.end.new.inner (left-fits c.args.conn service (told c.args.conn service) refl) (became-with service c.leave.new.self.history (left_event c.args.conn (told c.args.conn service)) (left-fits c.args.conn service (told c.args.conn service) refl) ((rw c.deref_mut.ensures.value at c.leave.ensures.recorded) ∙ left-some c.args.conn service (told c.args.conn service)) c.leave.ensures.history) c.total-count.ensures.count c.end.ensures.same c.end.ensures.recorded).1 ∙ ap (λ (s : Seen). s.home) c.pass.view_is

pub returns-clause-steady : goal.returns-clause-steady
returns-clause-steady g c =
    let e = c.enter-kept.ensures in let service = c.enter-kept.result.service.value.history in
    (done c.pass.inside.inner c.enter-kept.new.pass e.between e.is c.pass.invariant service (λ start at. (e.stands start at).history) (left_event c.args.conn (told c.args.conn service)) c.leave.new.self.history c.total-count.result c.end.new.inner (left-fits c.args.conn service (told c.args.conn service) refl) (became-with service c.leave.new.self.history (left_event c.args.conn (told c.args.conn service)) (left-fits c.args.conn service (told c.args.conn service) refl) ((rw c.deref_mut.ensures.value at c.leave.ensures.recorded) ∙ left-some c.args.conn service (told c.args.conn service)) c.leave.ensures.history) c.total-count.ensures.count c.end.ensures.same c.end.ensures.recorded).3 ∙ ap (λ (s : Seen). s.steady) c.pass.view_is

pub returns-clause-left : goal.returns-clause-left
returns-clause-left g c =
    let e = c.enter-kept.ensures in let service = c.enter-kept.result.service.value.history in
    let last = (done c.pass.inside.inner c.enter-kept.new.pass e.between e.is c.pass.invariant service (λ start at. (e.stands start at).history) (left_event c.args.conn (told c.args.conn service)) c.leave.new.self.history c.total-count.result c.end.new.inner (left-fits c.args.conn service (told c.args.conn service) refl) (became-with service c.leave.new.self.history (left_event c.args.conn (told c.args.conn service)) (left-fits c.args.conn service (told c.args.conn service) refl) ((rw c.deref_mut.ensures.value at c.leave.ensures.recorded) ∙ left-some c.args.conn service (told c.args.conn service)) c.leave.ensures.history) c.total-count.ensures.count c.end.ensures.same c.end.ensures.recorded).2 in
    let view : View = view_of c.pass.inside.inner in
    let steady = steady_or c.pass.inside.inner.start in
    let here = leaves c.args.conn (home_of c.pass.inside.inner) steady view e.between service (stands-view c.pass.inside.inner c.enter-kept.new.pass e.between e.is c.pass.invariant service (λ start at. (e.stands start at).history)) (told c.args.conn service) refl in
    subst (λ (s : Seen). Leaves (spot c.args.conn s.home s.steady s.view) (spot c.args.conn s.home s.steady (view_of c.end.new.inner))) c.pass.view_is
    (subst (λ (v : View). Leaves (spot c.args.conn (home_of c.pass.inside.inner) steady view) (spot c.args.conn (home_of c.pass.inside.inner) steady v)) (sym last) here)
