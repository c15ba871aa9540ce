-- Where the own events of a desk are in the history of its service, and what they answered there.
use Rattle.std.specs.Prelude.{◌≡◌, ℕ, List, [], ◌∷◌, ◌++◌, length}
use Rattle.shared_service.specs.service_tables.specs.State.{State}
use Rattle.shared_service.specs.service_events.specs.declared.event.Event.{Event}
use Rattle.shared_service.specs.service_events.specs.declared.event.Output.{Output}
use Rattle.shared_service.specs.service_events.specs.Step.{output_of}
use Rattle.shared_service.specs.service_events.specs.Replay.{replay}
use Rattle.shared_service.specs.service_desk.specs.Records.{Seen, Own}

-- The event is at this place of a history that begins with this state, and the answer is that of the step from the state that the events before
-- it lead to.
pub record IsAt (start : State) (log : List Event) (place : ℕ) (event : Event) (answer : Output) : Type 0 where
  pub before : List Event
  pub after : List Event
  pub log_is : log ≡ before ++ event ∷ after
  pub place_is : place ≡ length before
  pub answer_is : answer ≡ output_of (replay start before) event

-- own events of a desk, each with its answer, are at these places, in order
abbrev pub AreAt : State → List Event → List ℕ → List Seen → Type 0
AreAt start log [] [] = Unit {0}
AreAt start log (place ∷ places) (Own event answer ∷ owned) = IsAt start log place event answer × AreAt start log places owned
AreAt start log _ _ = ⊥
