-- The client's half of the handshake over a link: D-Bus Specification, "Authentication Protocol".
use Rattle.std.specs.Prelude.{◌≡◌, ℕ, ◌⊎◌, ◌++◌, Bool, true, false, List, [], Result, Ok, Err}
use Rattle.std.specs.List.{concat}
use Rattle.std.specs.Io.KnownBytes.{IsAtEnd}
use Rattle.kr_outside.specs.Faults.{Rose}
use Rattle.dbus_auth_client.specs.declared.client.ClientFault.{ClientFault}
use Rattle.dbus_auth_client.specs.declared.client.ClientFault.TheVariants as fault
use Rattle.dbus_auth_client.specs.Hearing as hearing
use Rattle.dbus_auth_client.specs.Openings.{opening}
use Rattle.kr_dialer.specs.Carrying.{LinkState, Carried, IsFront, IsStill}
use Rattle.dbus_opening.specs.declared.refused.OpenRefused.{OpenRefused}
use Rattle.dbus_opening.specs.declared.refused.OpenRefused.TheVariants as refused

-- the most bytes that are read at a time
abbrev pub most_read : ℕ
most_read = 65536

-- all that the client says in a handshake in which the server says these bytes
abbrev pub greeting : ℕ → List ℕ → List ℕ
greeting uid read = opening uid ++ concat (hearing.talk false read).said

-- more of a line is awaited
abbrev pub Awaits : hearing.End → Type 0
Awaits (hearing.waiting asked unfinished) = Unit {0}
Awaits (hearing.refused fault) = ⊥
Awaits (hearing.opened guid rest) = ⊥

-- why a handshake failed: a line of the server shows it, or the input has ended while a line was awaited
abbrev pub FailsFor : hearing.End → LinkState → ClientFault → Type 0
FailsFor how link why = (how ≡ hearing.refused why) ⊎ ((why ≡ fault.EndedEarly) × Awaits how × IsAtEnd link.left)

-- The server has accepted the user, and this is the rest of what was read; or the handshake has failed, or the link has, or no memory was left.
abbrev pub OpeningEnds : ℕ → List ℕ → List ℕ → LinkState → LinkState → Result (List ℕ) OpenRefused → Type 0
OpeningEnds uid read wrote old new (Ok rest) = ((guid : List ℕ) × ((hearing.talk false read).end ≡ hearing.opened guid rest)) × (wrote ≡ greeting uid read) × IsStill old new
OpeningEnds uid read wrote old new (Err (refused.Handshake why)) = FailsFor (hearing.talk false read).end new why × (wrote ≡ greeting uid read) × IsStill old new
OpeningEnds uid read wrote old new (Err refused.ReadFault) = Awaits (hearing.talk false read).end × (wrote ≡ greeting uid read) × Rose old.faults new.faults
OpeningEnds uid read wrote old new (Err refused.WriteFault) = IsFront wrote (greeting uid read) × Rose old.faults new.faults
OpeningEnds uid read wrote old new (Err refused.OutOfMemory) = IsFront wrote (greeting uid read) × IsStill old new

-- what a handshake read and wrote, and how it ended
pub record Opens (uid : ℕ) (old new : LinkState) (result : Result (List ℕ) OpenRefused) : Type 0 where
  pub read : List ℕ
  pub wrote : List ℕ
  pub carried : Carried old new read wrote
  pub ends : OpeningEnds uid read wrote old new result

-- ---- one line

-- the piece was written; or the link failed after a prefix of it
abbrev pub Says : List ℕ → LinkState → LinkState → Result Unit OpenRefused → Type 0
Says piece old new (Ok done) = Carried old new [] piece × IsStill old new
Says piece old new (Err refused.WriteFault) = (front : List ℕ) × IsFront front piece × Carried old new [] front × Rose old.faults new.faults
Says piece old new (Err _) = ⊥

-- bytes were read and appended to those that are held; or the link failed, or ended, or no memory was left
abbrev pub HoldsMore : List ℕ → List ℕ → LinkState → LinkState → Result Unit OpenRefused → Type 0
HoldsMore has left old new (Ok done) = (more : List ℕ) × Carried old new more [] × (left ≡ has ++ more) × IsStill old new
HoldsMore has left old new (Err refused.ReadFault) = Carried old new [] [] × Rose old.faults new.faults
HoldsMore has left old new (Err (refused.Handshake fault.EndedEarly)) = Carried old new [] [] × IsAtEnd new.left × IsStill old new
HoldsMore has left old new (Err refused.OutOfMemory) = (more : List ℕ) × Carried old new more [] × IsStill old new
HoldsMore has left old new (Err _) = ⊥

-- So far: these lines were said, and the talk goes on with the bytes that are held.
pub record Goes (uid : ℕ) (asked : Bool) (held : List ℕ) (old now : LinkState) : Type 0 where
  pub read : List ℕ
  pub lines : List (List ℕ)
  pub carried : Carried old now read (opening uid ++ concat lines)
  pub still : IsStill old now
  pub goes : hearing.talk false read ≡ hearing.told lines (hearing.talk asked held)

-- messages have begun, or the talk goes on
abbrev pub Turned : ℕ → Bool → List ℕ → LinkState → LinkState → Bool → Type 0
Turned uid asked held old now true = Opens uid old now (Ok held)
Turned uid asked held old now false = Goes uid asked held old now

-- one line was answered, or more of it was read; or the handshake ends
abbrev pub TurnsOn : ℕ → Bool → List ℕ → LinkState → LinkState → Result Bool OpenRefused → Type 0
TurnsOn uid asked held old now (Ok begun) = Turned uid asked held old now begun
TurnsOn uid asked held old now (Err why) = Opens uid old now (Err why)
