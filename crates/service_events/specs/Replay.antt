-- Lists of events: what they lead to from a state, whether each fits, what each answers, and what they cost.
use Rattle.std.specs.Prelude.{ℕ, ◌+◌, List, [], ◌∷◌, length, sum_by}
use Rattle.service_prompts.specs.service_tables.specs.State.{State}
use Rattle.service_events.specs.declared.event.Event.{Event}
use Rattle.service_events.specs.declared.event.Event.TheVariants as event
use Rattle.service_events.specs.declared.event.Output.{Output}
use Rattle.service_events.specs.Step.{step, output_of, Fits}

-- the state after all the events
abbrev pub replay : State → List Event → State
replay state [] = state
replay state (event ∷ events) = replay (step state event) events

-- each event fits the state that those before it lead to
abbrev pub Legal : State → List Event → Type 0
Legal state [] = Unit {0}
Legal state (event ∷ events) = Fits state event × Legal (step state event) events

-- what each event answers
abbrev pub outputs : State → List Event → List Output
outputs state [] = []
outputs state (event ∷ events) = output_of state event ∷ outputs (step state event) events

-- what a stored event costs besides the bytes of its request, or of its password (docs/SERVICE.md, "The history")
abbrev pub event_cost : ℕ
event_cost = 64

-- what an event costs of the memory that stored events take
abbrev pub cost_of : Event → ℕ
cost_of (event.Connect conn) = event_cost
cost_of (event.Arrive came) = event_cost + came.arrival.request.length
cost_of (event.Derived came) = event_cost + length came.password
cost_of (event.Leave conn) = event_cost
cost_of (event.Take conn) = event_cost
cost_of (event.Gone conn) = event_cost

-- what events cost
abbrev pub cost : List Event → ℕ
cost events = sum_by cost_of events
