-- What a service is in a run: the history since the run's start led to it.
use Rattle.std.specs.Prelude.{◌≡◌, ℕ, ◌+◌, ◌≤◌, Bool, List, [], ◌∷◌, length, take, drop}
use Rattle.service_desk.specs.service_tables.specs.State.{State}
use Rattle.service_desk.specs.service_events.specs.declared.event.Event.{Event}
use Rattle.service_desk.specs.service_events.specs.Replay.{replay, Legal}
use Rattle.service_desk.specs.service_events.specs.Fates.{is_steady}
use Rattle.kr_base.specs.declared.ids.ConnId.{ConnId}
use Rattle.service_history.specs.History.{History, ServiceState, IsHistory}
use Rattle.shared_service.specs.Sleepers.{IsWatched}

-- The run began with this state, after this many events, and this is its history since then. The service keeps the
-- events since its last cut; those before it led to its base. So a cut doesn't change the history.
pub record Stands (service : History) (start : State) (before : ℕ) (log : List Event) : Type 0 where
  pub kept : IsHistory service
  pub legal : Legal start log
  pub cut : ℕ
  pub few : cut ≤ length log
  pub era : service.window.era ≡ before + cut
  pub base : service.window.base ≡ replay start (take cut log)
  pub events : service.window.events ≡ drop cut log

-- where a run begins: the state, and whether the disk is steady
pub record Start : Type 0 where
  pub state : State
  pub steady : Bool

-- a run that begins with this service, at its last cut
abbrev pub start_of : {F S : Type 0} → (F → Bool) → (S → Bool) → ServiceState F S → Start
start_of folder_steady slot_steady service = record { state = service.history.window.base; steady = is_steady folder_steady slot_steady service.disk }

-- The service is what the history led to, its disk is steady exactly if it was at the start, and unless the sleepers are
-- to be looked through, nothing waits for any of them.
pub record IsLedTo {F S : Type 0} (folder_steady : F → Bool) (slot_steady : S → Bool) (service : ServiceState F S) (sleepers : List ConnId) (due : Bool) (start : Start) (before : ℕ) (log : List Event) : Type 0 where
  pub history : Stands service.history start.state before log
  pub steady : is_steady folder_steady slot_steady service.disk ≡ start.steady
  pub watched : IsWatched service.history.state sleepers due

-- the last of some events, alone in a list
abbrev pub newest : List Event → List Event
newest [] = []
newest (event ∷ []) = event ∷ []
newest (event ∷ next ∷ events) = newest (next ∷ events)
