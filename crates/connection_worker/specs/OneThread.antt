-- One connection on one thread: all that was read, recorded and written, and why it ended.
use Rattle.std.specs.Prelude.{ℕ, ◌+◌, IsTrue, List, ◌++◌, length, map}
use Rattle.std.specs.List.{concat}
use Rattle.dbus_auth.specs.Handshake.{handshake}
use Rattle.service_desk.specs.Records.{Records, of_own}
use Rattle.connection_worker.specs.declared.ending.End.{End}
use Rattle.connection_worker.specs.Causes.{HasCause, HasFinished, HasWritten, HasRefused}
use Rattle.connection_worker.specs.Fitting.{HasFit}
use Rattle.connection_worker.specs.Serving.{World, place_of, GivesMoments, GivesSalts}
use Rattle.service_desk.specs.service_events.specs.Single.{TimedRequest, AllFaultless, moments_of, turns, single}
use Rattle.connection_worker.specs.Stopping.{StopsAfter}
use Rattle.connection_worker.specs.Streams.{Input, Output, Took}
use Rattle.connection_worker.specs.Written.{written}

-- All that was read, recorded and written for one connection, whose desk is alone and which has just joined.
pub record IsServed (uid : ℕ) (guid : List ℕ) (from to : Input) (sink after : Output) (old new : World) (how : End) : Type 0 where
  pub read : List ℕ
  pub took : Took from to read
  pub asked : List TimedRequest
  -- the desk recorded the events of these requests and that the connection is gone, and no others
  pub recorded : Records (place_of old) (place_of new) (of_own old.told.state (single old.told.conn old.told.state asked))
  -- no device failed in them if the desk is steady
  pub faultless : IsTrue old.told.is_steady → AllFaultless asked
  -- a moment and a salt were taken for these too, and these moments for keys
  pub refused : List TimedRequest
  pub late : List ℕ
  pub few : HasRefused how (handshake uid guid read) asked refused late
  -- each request that gave work has its key, but perhaps the last one
  pub finished : HasFinished how old.told.conn old.told.state asked refused
  pub moments : GivesMoments old.coming (moments_of (asked ++ refused) ++ late) new.coming
  pub salts : GivesSalts old.salting (map (λ (a : TimedRequest). a.salt) (asked ++ refused)) new.salting
  pub cause : HasCause how (handshake uid guid read) asked (old.told.count + length (turns old.told.conn old.told.state asked)) from to sink after
  pub wrote : HasWritten how sink after (concat (handshake uid guid read).answers ++ written old.told.conn old.told.state (single old.told.conn old.told.state asked))
  -- all outputs could wait, except at Overrun, at which those of what came last couldn't; at WriteFault and Memory they may have been too many
  pub fit : HasFit how old.told.conn old.told.state asked
  -- after a write that failed, or for which no memory was left, nothing more was asked of the desk, but that the connection is gone
  pub stopped : StopsAfter how sink after (concat (handshake uid guid read).answers) old.told.conn old.told.state (turns old.told.conn old.told.state asked)
