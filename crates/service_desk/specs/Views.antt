-- What a desk has seen of the service's history: from a start, the events since then, and which of them are its own.
use Rattle.std.specs.Prelude.{◌≡◌, ℕ, ◌+◌, ◌≤◌, List, [], ◌∷◌, ◌++◌, length}
use Rattle.service_events.specs.service_tables.specs.Limits.{IsSpent}
use Rattle.service_events.specs.service_tables.specs.State.{State}
use Rattle.service_events.specs.declared.event.Event.{Event}
use Rattle.service_events.specs.declared.event.JoinRefused.{JoinRefused}
use Rattle.service_events.specs.declared.event.JoinRefused.TheVariants as join
use Rattle.service_events.specs.Replay.{replay, Legal}
use Rattle.service_events.specs.Step.{IsCrowded}

-- a start, the number of events of the run before it, the events seen since then, and the places of the desk's own
-- among them
pub record View : Type 0 where
  pub start : State
  pub before : ℕ
  pub seen : List Event
  pub own : List ℕ

-- places that rise, from the first bound on and below the second
abbrev pub ArePlaces : ℕ → ℕ → List ℕ → Type 0
ArePlaces from below [] = from ≤ below
ArePlaces from below (place ∷ places) = (from ≤ place) × ArePlaces (place + 1) below places

-- The view may be that of a desk on a service in this state, after this many events of the run: its events are legal
-- from the start, lead to the state, and are as many as the run had since the start; and the desk's own places are
-- among theirs.
pub record IsView (state : State) (count : ℕ) (view : View) : Type 0 where
  pub legal : Legal view.start view.seen
  pub leads : state ≡ replay view.start view.seen
  pub counted : count ≡ view.before + length view.seen
  pub places : ArePlaces 0 (length view.seen) view.own

-- the state that the history leads to, as far as the view has seen it
abbrev pub state_of : View → State
state_of view = replay view.start view.seen

-- the number of events of the run up to there
abbrev pub count_of : View → ℕ
count_of view = view.before + length view.seen

-- why a connection couldn't join, by what the view has seen then
abbrev pub HasCause : JoinRefused → View → Type 0
HasCause join.EventsSpent view = IsSpent (count_of view)
HasCause join.TooManyConnections view = IsCrowded (state_of view)
HasCause join.OutOfMemory view = Unit {0}

-- the view after events of others
abbrev pub with_others : List Event → View → View
with_others events view = record view { seen = view.seen ++ events }

-- the view after an event of its own
abbrev pub with_own : Event → View → View
with_own event view = record view { seen = view.seen ++ event ∷ []; own = view.own ++ length view.seen ∷ [] }
