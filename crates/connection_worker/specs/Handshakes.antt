-- A handshake over a source and a sink: what was read and written, and why it ended.
use Rattle.std.specs.Prelude.{◌≡◌, ℕ, ◌⊎◌, ◌++◌, List, [], None, Result, Ok, Err, ◌<◌, length}
use Rattle.std.specs.List.{concat}
use Rattle.std.specs.Io.KnownBytes.{IsAtEnd}
use Rattle.kr_outside.specs.Faults.{Rose}
use Rattle.dbus_auth.specs.declared.auth.AuthFault.{AuthFault}
use Rattle.dbus_auth.specs.declared.auth.AuthFault.TheVariants as fault
use Rattle.dbus_auth.specs.Exchange.{Exchange}
use Rattle.dbus_auth.specs.Handshake as shaking
use Rattle.dbus_framing.specs.Framers.{Framing}
use Rattle.connection_worker.specs.declared.ending.End.{End}
use Rattle.connection_worker.specs.declared.ending.End.TheVariants as end
use Rattle.connection_worker.specs.Streams.{Input, Output, Took, IsStill, Gave, GaveFront}

-- a source and a sink
pub record Both : Type 0 where
  pub input : Input
  pub output : Output

-- the most bytes that an incoming message may have
abbrev pub most_bytes : ℕ
most_bytes = 1048576

-- more bytes are awaited
abbrev pub Awaits : shaking.End → Type 0
Awaits (shaking.waiting at unfinished) = Unit {0}
Awaits (shaking.refused fault) = ⊥
Awaits (shaking.opened rest) = ⊥

-- Why a handshake was refused: its bytes show the fault; or the input ended while more bytes were awaited.
abbrev pub IsRefusedFor : shaking.End → Input → AuthFault → Type 0
IsRefusedFor how input fault.NoZero = how ≡ shaking.refused fault.NoZero
IsRefusedFor how input fault.LineTooLong = how ≡ shaking.refused fault.LineTooLong
IsRefusedFor how input fault.BeginTooSoon = how ≡ shaking.refused fault.BeginTooSoon
IsRefusedFor how input fault.EndedEarly = Awaits how × IsAtEnd input.left

-- the same, before it is used that no bytes show EndedEarly
abbrev pub IsRefusedSo : shaking.End → Input → AuthFault → Type 0
IsRefusedSo how input why = (how ≡ shaking.refused why) ⊎ ((why ≡ fault.EndedEarly) × Awaits how × IsAtEnd input.left)

-- A run over the bytes read, and how the call ended: open, with the bytes after BEGIN in the framer; or refused; or by
-- a fault of the source, or of the sink, or for lack of memory. All answers were written, or a prefix of them if the
-- sink failed or memory ran out. The source's count didn't rise, unless the source failed.
abbrev pub EndsFor : (shaking.End → Input → AuthFault → Type 0) → shaking.Run → Both → Both → Result Framing End → Type 0
EndsFor RefusedFor run old new (Ok framing) =
    (run.end ≡ shaking.opened framing.rest) × (framing.most ≡ most_bytes) × (framing.broken ≡ None) × Gave old.output new.output (concat run.answers) × IsStill old.input new.input
EndsFor RefusedFor run old new (Err (end.AuthRefused why)) = RefusedFor run.end new.input why × Gave old.output new.output (concat run.answers) × IsStill old.input new.input
EndsFor RefusedFor run old new (Err end.ReadFault) = Awaits run.end × Rose old.input.faults new.input.faults × Gave old.output new.output (concat run.answers)
EndsFor RefusedFor run old new (Err end.WriteFault) = Rose old.output.faults new.output.faults × GaveFront old.output new.output (concat run.answers) × IsStill old.input new.input
EndsFor RefusedFor run old new (Err end.Memory) = GaveFront old.output new.output (concat run.answers) × IsStill old.input new.input
EndsFor RefusedFor run old new (Err _) = ⊥

-- what a handshake read, and how it ended
pub record HandshakeOutcome (uid : ℕ) (guid : List ℕ) (old new : Both) (result : Result Framing End) : Type 0 where
  pub read : List ℕ
  pub took : Took old.input new.input read
  pub ends : EndsFor IsRefusedFor (shaking.handshake uid guid read) old new result

-- more bytes were read after those that are held; or the source failed, or ended, or no memory was left
abbrev pub ReadsMore : List ℕ → List ℕ → Input → Input → Result Unit End → Type 0
ReadsMore old new from to (Ok done) = (more : List ℕ) × Took from to more × (new ≡ old ++ more) × (0 < length more) × IsStill from to
ReadsMore old new from to (Err end.ReadFault) = Took from to [] × Rose from.faults to.faults
ReadsMore old new from to (Err (end.AuthRefused fault.EndedEarly)) = Took from to [] × IsAtEnd to.left × IsStill from to
ReadsMore old new from to (Err end.Memory) = (more : List ℕ) × Took from to more × IsStill from to
ReadsMore old new from to (Err _) = ⊥

-- After bytes that are held, these were read; the answers so far are written, and the run over all of them
-- continues with this one.
pub record Reached (at : Exchange) (held : List ℕ) (old new : Both) (further : shaking.Run) : Type 0 where
  pub read : List ℕ
  pub took : Took old.input new.input read
  pub still : IsStill old.input new.input
  pub answers : List (List ℕ)
  pub gave : Gave old.output new.output (concat answers)
  pub goes : shaking.run at (held ++ read) ≡ record { answers = answers ++ further.answers; end = further.end }

-- what a handshake read after bytes that are held and begin a line, and how it ended
pub record HandshakeOutcomeAfter (at : Exchange) (held : List ℕ) (old new : Both) (result : Result Framing End) : Type 0 where
  pub read : List ℕ
  pub took : Took old.input new.input read
  pub ends : EndsFor IsRefusedSo (shaking.run at (held ++ read)) old new result
