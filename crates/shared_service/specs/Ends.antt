-- A call with the turn that recorded one event or none.
use Rattle.std.specs.Prelude.{◌≡◌, ℕ, ◌+◌, ◌<◌, Bool, List, [], ◌∷◌, ◌++◌, length, Some}
use Rattle.service_desk.specs.service_events.specs.declared.event.Event.{Event}
use Rattle.service_history.specs.History.{History}
use Rattle.service_history.specs.Windows.{total}
use Rattle.shared_turn.specs.Passes as turn
use Rattle.shared_service.specs.Standing.{Start, Stands, newest}

-- what a pass with the turn has seen, followed by these events, leads to this service
abbrev pub StandsFor : History → turn.View Start Event → List Event → Type 0
StandsFor service pass more = (start : Start) → pass.start ≡ Some start → Stands service start.state pass.before (pass.seen ++ more)

-- a disk is as steady as it was where the run of the pass began
abbrev pub IsAsSteady : Bool → turn.View Start Event → Type 0
IsAsSteady steady pass = (start : Start) → pass.start ≡ Some start → steady ≡ start.steady

-- If the run still has this many events, none was recorded; otherwise the newest one was.
pub record IsEnd (service : History) (count : ℕ) (pass : turn.View Start Event) : Type 0 where
  pub few : pass.before + length pass.seen < 18446744073709551615
  pub none : total service.window ≡ count → (start : Start) → pass.start ≡ Some start → Stands service start.state pass.before pass.seen
  pub one : (total service.window ≡ count → ⊥) → (event : Event) × (newest service.window.events ≡ event ∷ []) × StandsFor service pass (event ∷ [])
