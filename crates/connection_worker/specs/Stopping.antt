-- Where a connection stops serving requests after a write that failed, or for which no memory was left.
use Rattle.std.specs.Prelude.{◌≡◌, ℕ, ◌+◌, ◌⊎◌, List, [], ◌++◌, length}
use Rattle.kr_base.specs.declared.ids.ConnId.{ConnId}
use Rattle.service_desk.specs.service_tables.specs.Connections.{waiting_for}
use Rattle.service_desk.specs.service_tables.specs.State.{State}
use Rattle.service_desk.specs.service_events.specs.declared.event.Event.{Event}
use Rattle.service_desk.specs.service_events.specs.Replay.{replay}
use Rattle.service_desk.specs.service_events.specs.Single.{taking}
use Rattle.connection_worker.specs.declared.ending.End.{End}
use Rattle.connection_worker.specs.declared.ending.End.TheVariants as end
use Rattle.connection_worker.specs.Streams.{Output, Gave, GaveFront}
use Rattle.connection_worker.specs.Written.{given_by, spelled_behind, written_after}

-- The last of these events is a take, if something waited: what those before it gave, after this many outputs, was written, and a prefix
-- of what waited for it. So no request and no key was recorded after a write that failed, and nothing more was taken.
pub record StopsAtWrite (from to : Output) (conn : ConnId) (taken : ℕ) (state : State) (events : List Event) : Type 0 where
  pub before : List Event
  pub parted : events ≡ before ++ taking conn (replay state before)
  pub amid : Output
  pub whole : Gave from amid (written_after conn taken state before)
  pub front : GaveFront amid to (spelled_behind (taken + length (given_by conn state before)) (waiting_for conn (replay state before).connections.rows))

-- the events end with the take of which not all was written, if the sink failed; or perhaps with it, if memory ran out, and otherwise all was
-- written
abbrev pub StopsFor : End → Output → Output → ConnId → ℕ → State → List Event → Type 0
StopsFor end.WriteFault from to conn taken state events = StopsAtWrite from to conn taken state events
StopsFor end.Memory from to conn taken state events = Gave from to (written_after conn taken state events) ⊎ StopsAtWrite from to conn taken state events
StopsFor _ from to conn taken state events = Unit {0}

-- The same after a handshake, whose answers are this text and were all written before; or the handshake ended the whole, and nothing was recorded.
abbrev pub StopsAfter : End → Output → Output → List ℕ → ConnId → State → List Event → Type 0
StopsAfter how from to answers conn state events = (events ≡ []) ⊎ ((amid : Output) × Gave from amid answers × StopsFor how amid to conn 0 state events)
