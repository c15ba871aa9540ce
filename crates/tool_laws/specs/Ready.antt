-- The states from which the laws of a script begin: those that a service reaches.
use Rattle.std.specs.Prelude.{◌<◌}
use Rattle.service_events.specs.service_tables.specs.Sound.{IsSound}
use Rattle.service_events.specs.service_tables.specs.State.{State}

-- the state is sound, and the next session's number isn't 0
pub record IsReady (state : State) : Type 0 where
  pub sound : IsSound state
  pub numbered : 0 < state.sessions.next
