-- The client's half of the handshake over a dialer: D-Bus Specification, "Authentication Protocol".
use Rattle.std.specs.Prelude.{◌≡◌, ℕ, false, List, Result, Ok, Err}
use Rattle.kr_outside.specs.Faults.{Rose}
use Rattle.dbus_auth_client.specs.Hearing as hearing
use Rattle.dbus_framing.specs.Framers.{Framing}
use Rattle.dbus_opening.specs.declared.refused.OpenRefused.{OpenRefused}
use Rattle.dbus_opening.specs.declared.refused.OpenRefused.TheVariants as refused
use Rattle.dbus_opening.specs.Opening.{FailsFor, greeting}
use Rattle.kr_dialer.specs.Carrying.{LinkState, Carried, IsFront, IsStill}
use Rattle.client_tool.specs.declared.status.BadReply.TheVariants as bad
use Rattle.client_tool.specs.declared.status.Stop.{Stop}
use Rattle.client_tool.specs.declared.status.Stop.TheVariants as stop
use Rattle.client_tool.specs.Talking.{most_bytes}

-- why the tool stops at a handshake that was refused
abbrev pub stopped_by : OpenRefused → Stop
stopped_by (refused.Handshake why) = stop.BadReply (bad.Handshake why)
stopped_by refused.ReadFault = stop.LinkFault
stopped_by refused.WriteFault = stop.LinkFault
stopped_by refused.OutOfMemory = stop.Memory

-- the handshake is whole, and what followed is in the framer; or it has failed, or the dialer has, or no memory was left
abbrev pub GreetingEnds : ℕ → List ℕ → List ℕ → LinkState → LinkState → Result Framing Stop → Type 0
GreetingEnds uid read wrote old new (Ok framing) =
    ((guid : List ℕ) × ((hearing.talk false read).end ≡ hearing.opened guid framing.rest)) × (framing.most ≡ most_bytes) × (wrote ≡ greeting uid read) × IsStill old new
GreetingEnds uid read wrote old new (Err (stop.BadReply (bad.Handshake why))) = FailsFor (hearing.talk false read).end new why × (wrote ≡ greeting uid read) × IsStill old new
GreetingEnds uid read wrote old new (Err stop.LinkFault) = IsFront wrote (greeting uid read) × Rose old.faults new.faults
GreetingEnds uid read wrote old new (Err stop.Memory) = IsFront wrote (greeting uid read) × IsStill old new
GreetingEnds uid read wrote old new (Err _) = ⊥

-- what a handshake read and wrote, and how it ended
pub record Greets (uid : ℕ) (old new : LinkState) (result : Result Framing Stop) : Type 0 where
  pub read : List ℕ
  pub wrote : List ℕ
  pub carried : Carried old new read wrote
  pub ends : GreetingEnds uid read wrote old new result
