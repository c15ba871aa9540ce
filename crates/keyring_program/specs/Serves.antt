-- One run over the standard streams: what was read, recorded and written, and why it ended.
use Rattle.std.specs.Prelude.{◌≡◌, ℕ, Bool, IsTrue, List, [], Option, length}
use Rattle.dbus_auth.specs.Handshake.{Run, handshake}
use Rattle.lone_desk.specs.service_tables.specs.Opened.{Contents, opened_state}
use Rattle.lone_desk.specs.service_tables.specs.Sound.{AreSoundContents}
use Rattle.lone_desk.specs.service_events.specs.Replay.{Legal}
use Rattle.service_hub.specs.connection_worker.specs.declared.ending.End.{End}
use Rattle.service_hub.specs.connection_worker.specs.Causes.{HasCause, HasFinished, HasWritten}
use Rattle.lone_desk.specs.service_events.specs.Single.{TimedRequest, AllFaultless}
use Rattle.service_hub.specs.connection_worker.specs.Fitting.{HasFit}
use Rattle.service_hub.specs.connection_worker.specs.Streams.{Input, Output, Took}
use Rattle.keyring_program.specs.Events.{events_until, events_of, joined, text_of, the_connection, HaveMoments, HaveSalts}
use Rattle.keyring_program.specs.ServerNumber.{guid}
use Rattle.keyring_program.specs.Status.{status_of}
use Rattle.keyring_program.specs.declared.status.Status.{Status}

-- the run of the handshake with this user, under this seed, over the bytes read
abbrev pub handshake_run : ℕ → List ℕ → List ℕ → Run
handshake_run uid seed read = handshake uid (guid seed) read

-- The run of the user's client under this seed, with a clock that returns these moments, over a service that starts with these
-- collections and aliases, which are sound: these bytes were read, and these requests in them recorded, each with a moment and a salt; their events
-- are legal from the service's start, each request that gave work has its key, but perhaps the last one, all outputs could wait, except as the
-- end says, no device failed in them if the service's disk is steady, and
-- their outputs were written after the handshake's answers. The connection's end has its cause, and the status is that
-- of the end.
pub record Serves (uid : ℕ) (seed : List ℕ) (coming : Option (ℕ → ℕ)) (from to : Input) (sink after : Output) (steady : Bool) (contents : Contents) (status : Status) : Type 0 where
  pub read : List ℕ
  pub took : Took from to read
  pub asked : List TimedRequest
  pub sound : AreSoundContents contents
  pub legal : Legal (opened_state contents) (events_of contents asked)
  pub faultless : IsTrue steady → AllFaultless asked
  pub moments : HaveMoments coming asked
  pub how : End
  pub finished : HasFinished how the_connection (joined contents) asked []
  pub fit : HasFit how the_connection (joined contents) asked
  pub salts : HaveSalts seed asked
  pub status_is : status ≡ status_of how
  pub cause : HasCause how (handshake_run uid seed read) asked (length (events_until contents asked)) from to sink after
  pub wrote : HasWritten how sink after (text_of contents (handshake_run uid seed read) asked)
