use Rattle.std.proofs.Common.{◌≡◌, List, ◌++◌, ◌∙◌, ap, subst, append-nil}
use Rattle.service_desk.specs.service_events.specs.declared.event.Event.{Event}
use Rattle.shared_turn.specs.Shares.{whole}
use Rattle.shared_service.specs.Passes.{Seen, view_of}
use Rattle.shared_service.specs.Standing.{Stands}
use Rattle.shared_service.specs.Tries.{IsClosed, IsWhole}
use Rattle.shared_service.proofs.Ends.{stands-view, steady-found}
use Rattle.shared_service.proofs.shared.SharedService.close.Goals as goal

pub returns-clause-closed : goal.returns-clause-closed
returns-clause-closed g c =
    let e = c.enter-kept.ensures in
    let service = c.enter-kept.result.service.value.history in
    rw c.into_inner.ensures (subst (λ (s : Seen). IsClosed s.view service) c.pass.view_is
    record { between = e.between; stands = stands-view c.pass.inside.inner c.enter-kept.new.pass e.between e.is c.pass.invariant service (λ start at. (e.stands start at).history) })

-- the only pass of a service had seen all of it
pub returns-clause-whole : goal.returns-clause-whole
returns-clause-whole g c =
    let e = c.enter-kept.ensures in
    let service = c.enter-kept.result.service.value.history in
    let inner = c.pass.inside.inner in
    let stands = stands-view inner c.enter-kept.new.pass e.between e.is c.pass.invariant service (λ start at. (e.stands start at).history) in
    rw c.into_inner.ensures (subst (λ (s : Seen). s.home.share ≡ whole → IsWhole s.view service) c.pass.view_is
    (λ is. record {
      stands = subst (λ (l : List Event). Stands service (view_of inner).start (view_of inner).before l) (ap (λ (l : List Event). inner.seen ++ l) (e.alone is).0 ∙ append-nil inner.seen) stands;
      all = (e.alone is).1;
    }))

pub returns-clause-steady : goal.returns-clause-steady
returns-clause-steady g c =
    let e = c.enter-kept.ensures in
    rw c.into_inner.ensures (steady-found c.pass.inside.inner c.enter-kept.new.pass e.between e.is c.pass.invariant _ (λ start at. (e.stands start at).steady) ∙ ap (λ (s : Seen). s.steady) c.pass.view_is)
