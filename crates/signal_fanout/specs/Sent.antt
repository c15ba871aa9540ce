-- What is sent: an output with its recipient. A change of the state says what it sends by these; they become deliveries, one for each connection that gets it.
use Rattle.std.specs.Prelude.{Bool, true, ◌==◌}
use Rattle.kr_base.specs.declared.ids.ConnId.{ConnId}
use Rattle.secret_calls.specs.declared.out.Out.{Out}

-- to whom an output goes
pub data Recipient : Type 0 where
  -- to this connection, if it is there
  One : (conn : ConnId) → Recipient
  -- to each connection that is there
  Everyone : Recipient

-- an output with its recipient
pub record Sent : Type 0 where
  pub to : Recipient
  pub out : Out

-- whether what is sent to the recipient goes to the connection, if it is there
abbrev pub is_for : Recipient → ConnId → Bool
is_for (One to) conn = conn.0 == to.0
is_for Everyone conn = true
