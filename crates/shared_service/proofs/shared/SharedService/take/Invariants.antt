use Rattle.std.proofs.Common.{◌≡◌, List}
use Rattle.service_desk.specs.service_events.specs.declared.event.Event.{Event}
use Rattle.service_desk.specs.Views.{with_others}
use Rattle.shared_service.proofs.shared.SharedService.take.Given as goal

-- the pass has seen events of others, and recorded nothing
abbrev pub invariant-loop : goal.invariant-loop
invariant-loop g l =
    (goal.iterator-loop g).can_next l.iterator' × (goal.iterator-loop g).is_finite l.iterator' × (l.pass.home ≡ l.initial.pass.home) × (l.pass.steady ≡ l.initial.pass.steady)
    × ((between : List Event) × (l.pass.view ≡ with_others between l.initial.pass.view))
