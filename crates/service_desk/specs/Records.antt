-- What the calls of a desk recorded, one after another: events of its own, each with its answer, among events of others.
use Rattle.std.specs.Prelude.{◌≡◌, ◌+◌, IsTrue, List, [], ◌∷◌, ◌++◌, length, map}
use Rattle.std.specs.List.{AllByRecursion}
use Rattle.service_events.specs.secret_calls.specs.declared.out.Out.{Out}
use Rattle.service_events.specs.service_tables.specs.State.{State}
use Rattle.service_events.specs.declared.event.Event.{Event}
use Rattle.service_events.specs.declared.event.Output.{Output}
use Rattle.service_events.specs.declared.event.Output.TheVariants as output
use Rattle.service_events.specs.Fates.{IsFaultless}
use Rattle.service_events.specs.Step.{step, output_of, Fits}
use Rattle.service_events.specs.Replay.{replay}
use Rattle.service_desk.specs.Places.{Place, IsSame}
use Rattle.service_desk.specs.Views.{View, with_others, with_own}

-- an event that a desk has seen: one of others, or one of its own, with its answer
pub data Seen : Type 0 where
  Others : (event : Event) → Seen
  Own : (event : Event) → (answer : Output) → Seen

-- the event
abbrev pub event_of : Seen → Event
event_of (Others event) = event
event_of (Own event answer) = event

-- the events, in order
abbrev pub events_of : List Seen → List Event
events_of seen = map event_of seen

-- the event is the desk's own
abbrev pub IsOwn : Seen → Type 0
IsOwn (Others event) = ⊥
IsOwn (Own event answer) = Unit {0}

-- an event of the desk's own contains no fault of a device
abbrev pub IsOwnFaultless : Seen → Type 0
IsOwnFaultless (Others event) = Unit {0}
IsOwnFaultless (Own event answer) = IsFaultless event

-- Each event fits the state that those before it lead to, and the answer to each own one is that of the step from there.
abbrev pub AreAnswered : State → List Seen → Type 0
AreAnswered state [] = Unit {0}
AreAnswered state (Others event ∷ more) = Fits state event × AreAnswered (step state event) more
AreAnswered state (Own event answer ∷ more) = Fits state event × (answer ≡ output_of state event) × AreAnswered (step state event) more

-- the view after them
abbrev pub with_seen : List Seen → View → View
with_seen [] view = view
with_seen (Others event ∷ more) view = with_seen more (with_others (event ∷ []) view)
with_seen (Own event answer ∷ more) view = with_seen more (with_own event view)

-- The calls of the desk, from the old place to the new one, recorded its own events among these, and saw those of others.
pub record Records (old new : Place) (seen : List Seen) : Type 0 where
  pub alone : IsTrue old.told.is_alone → AllByRecursion IsOwn seen
  pub faultless : IsTrue old.told.is_steady → AllByRecursion IsOwnFaultless seen
  pub answered : AreAnswered old.told.state seen
  pub state : new.told.state ≡ replay old.told.state (events_of seen)
  pub count : new.told.count ≡ old.told.count + length seen
  pub same : IsSame old.told new.told
  pub views : (view : View) → old.has_seen view → new.has_seen (with_seen seen view)

-- events of others
abbrev pub of_others : List Event → List Seen
of_others events = map (λ event. Others event) events

-- events of the desk's own, each with the answer of the step from the state that those before it lead to
abbrev pub of_own : State → List Event → List Seen
of_own state [] = []
of_own state (event ∷ events) = Own event (output_of state event) ∷ of_own (step state event) events

-- the outputs in an answer
abbrev pub outs_in : Output → List Out
outs_in (output.Taken outs) = outs
outs_in _ = []

-- the outputs in the answers to the desk's own events, in order
abbrev pub given : List Seen → List Out
given [] = []
given (Others event ∷ more) = given more
given (Own event answer ∷ more) = outs_in answer ++ given more
