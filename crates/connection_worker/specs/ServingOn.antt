-- The calls after a handshake, as they arrive from a source.
use Rattle.std.specs.Prelude.{◌≡◌, ◌≢◌, ℕ, ◌<◌, List, [], ◌++◌, length, Result, Ok, Err}
use Rattle.std.specs.Io.KnownBytes.{IsAtEnd}
use Rattle.kr_outside.specs.Faults.{Rose}
use Rattle.dbus_auth.specs.Handshake.{silent, opened}
use Rattle.dbus_framing.specs.declared.violation.Violation.TheVariants as violation
use Rattle.dbus_framing.specs.Framers.{Framing}
use Rattle.dbus_framing.specs.Streams.{Stream}
use Rattle.connection_worker.specs.declared.ending.End.{End}
use Rattle.connection_worker.specs.declared.ending.End.TheVariants as end
use Rattle.connection_worker.specs.Answering.{ServedPrefix}
use Rattle.connection_worker.specs.Causes.{HasCause, HasFinished, HasWritten, HasRefused}
use Rattle.connection_worker.specs.Fitting.{HasFit}
use Rattle.connection_worker.specs.Serving.{World, IsIdle, Recorded}
use Rattle.service_desk.specs.service_events.specs.Single.{TimedRequest, turns}
use Rattle.connection_worker.specs.Stopping.{StopsFor}
use Rattle.connection_worker.specs.Streams.{Input, Output, Took, IsStill}
use Rattle.connection_worker.specs.Written.{written_after}

-- at least one byte more was read and fed to the framer; or the source failed, or ended between two messages or inside one, or no memory was left for what was read
abbrev pub FeedsMore : Framing → Framing → Input → Input → Result Unit End → Type 0
FeedsMore has left from to (Ok done) =
    (more : List ℕ) × Took from to more × (left.rest ≡ has.rest ++ more) × (left.most ≡ has.most) × IsStill from to × (0 < length more)
FeedsMore has left from to (Err end.ReadFault) = Took from to [] × Rose from.faults to.faults
FeedsMore has left from to (Err end.Done) = Took from to [] × IsAtEnd to.left × (has.rest ≡ []) × IsStill from to
FeedsMore has left from to (Err (end.Violation violation.EndInside)) = Took from to [] × IsAtEnd to.left × (has.rest ≢ []) × IsStill from to
FeedsMore has left from to (Err end.Memory) = (more : List ℕ) × Took from to more × IsStill from to × (0 < length more)
FeedsMore has left from to (Err _) = ⊥

-- all that was read, recorded and written after a handshake
pub record ServesOn (has : Framing) (from to : Input) (old new : World) (sink after : Output) (how : End) : Type 0 where
  pub read : List ℕ
  pub took : Took from to read
  pub asked : List TimedRequest
  pub refused : List TimedRequest
  pub late : List ℕ
  pub recorded : Recorded old new asked refused late
  pub finished : HasFinished how old.told.conn old.told.state asked refused
  pub idle : IsIdle new.told
  pub fit : HasFit how old.told.conn old.told.state asked
  pub few : HasRefused how (silent (opened (has.rest ++ read))) asked refused late
  pub cause : HasCause how (silent (opened (has.rest ++ read))) asked new.told.count from to sink after
  pub wrote : HasWritten how sink after (written_after old.told.conn 0 old.told.state (turns old.told.conn old.told.state asked))
  pub stopped : StopsFor how sink after old.told.conn 0 old.told.state (turns old.told.conn old.told.state asked)

-- So far: these bytes were read, and the messages so far in them and in what the framer held are served.
pub record ServedSoFar (has : Framing) (from now : Input) (left : Framing) (old new : World) (behind : ℕ) (sink out : Output) : Type 0 where
  pub read : List ℕ
  pub took : Took from now read
  pub still : IsStill from now
  pub most : left.most ≡ has.most
  pub going : ServedPrefix has.most (has.rest ++ read) left.rest old new 0 behind sink out

-- the same, and no further message is complete
pub record IsThrough (has : Framing) (from now : Input) (left : Framing) (old new : World) (behind : ℕ) (sink out : Output) : Type 0 where
  pub so_far : ServedSoFar has from now left old new behind sink out
  pub stream : Stream has.most (has.rest ++ so_far.read) so_far.going.messages left.rest
