-- What a desk keeps of its pass: each fact has at most one proof, and they make its view one of the service.
use Rattle.std.specs.Prelude.{◌≡◌, ℕ, ◌+◌, List, [], ◌∷◌, length, refl}
use mathlib.Core.Path.{sym, subst}
use mathlib.Core.HLevel.{×_prop, Unit-prop}
use Rattle.std.proofs.Props.{props}
use Rattle.service_desk.specs.service_tables.specs.State.{State}
use Rattle.service_desk.specs.service_events.specs.declared.event.Event.{Event}
use Rattle.service_desk.specs.service_events.specs.Step.{step}
use Rattle.service_desk.specs.service_events.proofs.EventLemmas.{fits-prop}
use Rattle.service_desk.specs.service_events.specs.Replay.{Legal}
use Rattle.service_desk.specs.Views.{View, ArePlaces, IsView, state_of, count_of}

events-prop : (state : State) (events : List Event) → IsProp (Legal state events)
events-prop state [] = Unit-prop
events-prop state (event ∷ events) = ×_prop (fits-prop state event) (events-prop (step state event) events)

rising-prop : (from below : ℕ) (places : List ℕ) → IsProp (ArePlaces from below places)
rising-prop from below [] = Prim.hlevel props
rising-prop from below (place ∷ places) = ×_prop (Prim.hlevel props) (rising-prop (place + 1) below places)

-- the events that were seen are legal from the start
abbrev pub IsLegal : View → Type 0
IsLegal view = Legal view.start view.seen

-- this has at most one proof
pub legal-prop : (view : View) → IsProp (IsLegal view)
legal-prop view = events-prop view.start view.seen

-- its own places rise, each below the number of events
abbrev pub Rises : View → Type 0
Rises view = ArePlaces 0 (length view.seen) view.own

-- this has at most one proof, too
pub rises-prop : (view : View) → IsProp (Rises view)
rises-prop view = rising-prop 0 (length view.seen) view.own

-- a view whose events are legal leads to the state that they lead to
pub leads : (view other : View) → IsLegal view → Rises view → other ≡ view → IsView (state_of view) (count_of view) other
leads view other legal places same = subst (λ (v : View). IsView (state_of view) (count_of view) v) (sym same) record { legal = legal; leads = refl; counted = refl; places = places }
