-- D-Bus Specification, "Authentication Protocol", "Server states": the state of a handshake.
use Rattle.std.specs.Prelude.{ℕ, List}
use Rattle.dbus_auth.specs.declared.auth.State.{State}

-- the user id that is awaited, the server's GUID, and the state of the table
pub record Exchange : Type 0 where
  pub uid : ℕ
  pub guid : List ℕ
  pub state : State
