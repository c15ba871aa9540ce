use Rattle.std.proofs.Common.{◌≡◌, false, refl, sym, ap, ◌∙◌, subst}
use Rattle.service_desk.specs.service_events.specs.Fates.{is_steady}
use Rattle.service_history.specs.History.{History, told}
use Rattle.service_desk.specs.Views.{View, with_others}
use Rattle.shared_service.specs.Passes.{Seen, view_of}
use Rattle.shared_service.specs.Sleepers.{has_work, AreAtRest, call_of}
use Rattle.shared_service.specs.Tries.{Tries, after_take}
use Rattle.shared_service.proofs.Ends.{end-some, done, steady-still, stands-view, became-with, taken_event, taken-some, taken-fits, after-taken}
use Rattle.shared_service.proofs.Rest.{taken-rest, taken-sleeps}
use Rattle.shared_service.proofs.shared.SharedService.try_take.Goals as goal

pub end-requires-clause-ended : goal.end-requires-clause-ended
end-requires-clause-ended g c =
    let e = c.enter-kept.ensures in let service = c.enter-kept.result.service.value.history in
    end-some c.pass.inside.inner c.enter-kept.new.pass e.between e.is c.pass.invariant service (λ start at. (e.stands start at).history) (taken_event c.args.conn (told c.args.conn service)) c.take-taken.new.self.history c.total-count.result (became-with service c.take-taken.new.self.history (taken_event c.args.conn (told c.args.conn service)) (taken-fits c.args.conn service (told c.args.conn service) refl) ((rw c.deref_mut.ensures.value at c.take-taken.ensures.recorded) ∙ taken-some c.args.conn service (told c.args.conn service)) c.take-taken.ensures.history) c.total-count.ensures.count

pub end-requires-clause-steady : goal.end-requires-clause-steady
end-requires-clause-steady g c =
    let e = c.enter-kept.ensures in
    steady-still c.pass.inside.inner c.enter-kept.new.pass e.between e.is c.pass.invariant _ (λ start at. (e.stands start at).steady) _ (ap (is_steady g.F.Folder.is_steady g.F.Cell.Slot.is_steady) (rw c.deref_mut.ensures.value at c.take-taken.ensures.disk))

-- unless others are told something, those for which nothing waited are still at rest
pub end-requires-clause-watched : goal.end-requires-clause-watched
end-requires-clause-watched g c =
    let e = c.enter-kept.ensures in let service = c.enter-kept.result.service.value.history in
    let begun = c.pass.invariant.start in
    let given = rw c.deref_mut.ensures.value at c.take-taken.ensures.given in
    λ quiet due.
    subst (λ (h : History). AreAtRest h.state c.enter-kept.result.sleepers.value.conns.items) (sym (rw c.deref_mut.ensures.value at c.take-taken.ensures.recorded))
    (taken-rest c.args.conn service (told c.args.conn service) (λ tells. quiet (c.call_of.ensures ∙ (ap call_of given ∙ tells))) c.enter-kept.result.sleepers.value.conns.items ((e.stands begun.0 begun.1).watched due))

pub end-requires-clause-sleeps : goal.end-requires-clause-sleeps
end-requires-clause-sleeps g c =
    let service = c.enter-kept.result.service.value.history in
    let given = rw c.deref_mut.ensures.value at c.take-taken.ensures.given in
    λ sleeps.
    subst (λ (h : History). has_work h.state c.args.conn ≡ false) (sym (rw c.deref_mut.ensures.value at c.take-taken.ensures.recorded))
    (taken-sleeps c.args.conn service (told c.args.conn service) refl (sym (ap call_of given) ∙ (sym c.call_of.ensures ∙ sleeps)))

pub invariant_of-pass : goal.invariant_of-pass
invariant_of-pass g c =
    let e = c.enter-kept.ensures in let service = c.enter-kept.result.service.value.history in
    (done c.pass.inside.inner c.enter-kept.new.pass e.between e.is c.pass.invariant service (λ start at. (e.stands start at).history) (taken_event c.args.conn (told c.args.conn service)) c.take-taken.new.self.history c.total-count.result c.end.new.inner (taken-fits c.args.conn service (told c.args.conn service) refl) (became-with service c.take-taken.new.self.history (taken_event c.args.conn (told c.args.conn service)) (taken-fits c.args.conn service (told c.args.conn service) refl) ((rw c.deref_mut.ensures.value at c.take-taken.ensures.recorded) ∙ taken-some c.args.conn service (told c.args.conn service)) c.take-taken.ensures.history) c.total-count.ensures.count c.end.ensures.same c.end.ensures.recorded).0

pub returns-clause-same : goal.returns-clause-same
returns-clause-same g c =
    let e = c.enter-kept.ensures in let service = c.enter-kept.result.service.value.history in
    (done c.pass.inside.inner c.enter-kept.new.pass e.between e.is c.pass.invariant service (λ start at. (e.stands start at).history) (taken_event c.args.conn (told c.args.conn service)) c.take-taken.new.self.history c.total-count.result c.end.new.inner (taken-fits c.args.conn service (told c.args.conn service) refl) (became-with service c.take-taken.new.self.history (taken_event c.args.conn (told c.args.conn service)) (taken-fits c.args.conn service (told c.args.conn service) refl) ((rw c.deref_mut.ensures.value at c.take-taken.ensures.recorded) ∙ taken-some c.args.conn service (told c.args.conn service)) c.take-taken.ensures.history) c.total-count.ensures.count c.end.ensures.same c.end.ensures.recorded).1 ∙ ap (λ (s : Seen). s.home) c.pass.view_is

pub returns-clause-steady : goal.returns-clause-steady
returns-clause-steady g c =
    let e = c.enter-kept.ensures in let service = c.enter-kept.result.service.value.history in
    (done c.pass.inside.inner c.enter-kept.new.pass e.between e.is c.pass.invariant service (λ start at. (e.stands start at).history) (taken_event c.args.conn (told c.args.conn service)) c.take-taken.new.self.history c.total-count.result c.end.new.inner (taken-fits c.args.conn service (told c.args.conn service) refl) (became-with service c.take-taken.new.self.history (taken_event c.args.conn (told c.args.conn service)) (taken-fits c.args.conn service (told c.args.conn service) refl) ((rw c.deref_mut.ensures.value at c.take-taken.ensures.recorded) ∙ taken-some c.args.conn service (told c.args.conn service)) c.take-taken.ensures.history) c.total-count.ensures.count c.end.ensures.same c.end.ensures.recorded).3 ∙ ap (λ (s : Seen). s.steady) c.pass.view_is

pub returns-clause-tried : goal.returns-clause-tried
returns-clause-tried g c =
    let e = c.enter-kept.ensures in let service = c.enter-kept.result.service.value.history in
    let last = (done c.pass.inside.inner c.enter-kept.new.pass e.between e.is c.pass.invariant service (λ start at. (e.stands start at).history) (taken_event c.args.conn (told c.args.conn service)) c.take-taken.new.self.history c.total-count.result c.end.new.inner (taken-fits c.args.conn service (told c.args.conn service) refl) (became-with service c.take-taken.new.self.history (taken_event c.args.conn (told c.args.conn service)) (taken-fits c.args.conn service (told c.args.conn service) refl) ((rw c.deref_mut.ensures.value at c.take-taken.ensures.recorded) ∙ taken-some c.args.conn service (told c.args.conn service)) c.take-taken.ensures.history) c.total-count.ensures.count c.end.ensures.same c.end.ensures.recorded).2 in
    let view : View = view_of c.pass.inside.inner in
    let met : View = with_others e.between view in
    subst (λ (s : Seen). Tries c.args.conn s.view c.take-taken.result (view_of c.end.new.inner)) c.pass.view_is record {
      between = e.between;
      service = service;
      stands = stands-view c.pass.inside.inner c.enter-kept.new.pass e.between e.is c.pass.invariant service (λ start at. (e.stands start at).history);
      given_is = (rw c.deref_mut.ensures.value at c.take-taken.ensures.given);
      is = last ∙ (after-taken c.args.conn service.state met (told c.args.conn service) ∙ ap (λ t. after_take c.args.conn t met) (sym (rw c.deref_mut.ensures.value at c.take-taken.ensures.given)));
    }
