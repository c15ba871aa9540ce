-- The writer of a connection: it takes the outputs that wait, among the events of others, and writes them.
use Rattle.std.specs.Prelude.{◌≡◌, ℕ, ◌⊎◌, Bool, false, true, List, [], ◌∷◌, ◌++◌, length, map, Result, Err}
use Rattle.kr_base.specs.declared.ids.ConnId.{ConnId}
use Rattle.kr_outside.specs.Faults.{Rose}
use Rattle.service_desk.specs.secret_calls.specs.declared.out.Out.{Out}
use Rattle.service_desk.specs.secret_calls.specs.declared.taken.Taken.{Taken}
use Rattle.service_desk.specs.secret_calls.specs.declared.taken.Taken.TheVariants as taken
use Rattle.service_desk.specs.service_tables.specs.State.{State}
use Rattle.service_desk.specs.service_events.specs.declared.event.Event.TheVariants as event
use Rattle.service_desk.specs.service_events.specs.declared.event.Output.TheVariants as output
use Rattle.service_desk.specs.service_events.specs.Step.{IsMissing}
use Rattle.service_desk.specs.Calls.{IsToldOf, Takes}
use Rattle.service_desk.specs.Places.{Told, Place}
use Rattle.service_desk.specs.Records.{Seen, Own, Records, given}
use Rattle.connection_worker.specs.declared.ending.End.{End}
use Rattle.connection_worker.specs.declared.ending.End.TheVariants as end
use Rattle.connection_worker.specs.Causes.{HasWritten}
use Rattle.connection_worker.specs.Sending.{AreBehind, Sends}
use Rattle.connection_worker.specs.Sides.{own_in, told_after}
use Rattle.connection_worker.specs.Streams.{Output, Gave, GaveFront}
use Rattle.connection_worker.specs.Written.{spelled_behind}

-- the event of a take that returned these outputs
abbrev pub take_event : ConnId → List Out → Seen
take_event conn outs = Own (event.Take conn) (output.Taken outs)

-- the event that the connection is gone
abbrev pub gone_event : ConnId → Seen
gone_event conn = Own (event.Gone conn) output.Gone

-- Why a writer ended: by what its desk had seen at the last take, and the sink before and after.
abbrev pub WroteFor : End → Told → Output → Output → Type 0
-- nothing waits, nothing was lost, and the connection is leaving
WroteFor end.Done told from to = IsToldOf told.conn told.state false false true
-- the connection isn't there
WroteFor end.OtherEnded told from to = IsMissing told.conn told.state
-- nothing waits, and an output was lost
WroteFor end.Overrun told from to = (leaving : Bool) × IsToldOf told.conn told.state false true leaving
-- the sink's count rose
WroteFor end.WriteFault told from to = Rose from.faults to.faults
-- at any time
WroteFor end.Memory told from to = Unit {0}
-- a writer does no handshake, reads nothing and brings no request
WroteFor _ told from to = ⊥

-- What was recorded after the last take: that the connection is gone, by the take itself if everything was done, and nothing if others had
-- ended it. At any other end it reports to the desk that the connection is gone, which records nothing if in this state, which it saw last, the connection isn't there.
abbrev pub GoneFor : End → ConnId → State → List Seen → Type 0
GoneFor end.Done conn state last = last ≡ gone_event conn ∷ []
GoneFor end.OtherEnded conn state last = last ≡ []
GoneFor _ conn state last = (own_in last ≡ gone_event conn ∷ []) ⊎ ((own_in last ≡ []) × IsMissing conn state)

-- The last of these events that the desk recorded of its own is a take whose outputs weren't all written: what those before it returned was
-- written, and a prefix of what it returned.
pub record StopsAtTake (from to : Output) (conn : ConnId) (seen : List Seen) : Type 0 where
  pub before : List Seen
  pub behind : List Seen
  pub parted : seen ≡ before ++ behind
  pub outs : List Out
  pub only : own_in behind ≡ take_event conn outs ∷ []
  pub amid : Output
  pub whole : Gave from amid (spelled_behind 0 (given before))
  pub front : GaveFront amid to (spelled_behind (length (given before)) outs)

-- nothing is taken after a write that failed, or for which no memory was left
abbrev pub HasStopped : End → Output → Output → ConnId → List Seen → Type 0
HasStopped end.WriteFault from to conn seen = StopsAtTake from to conn seen
HasStopped end.Memory from to conn seen = StopsAtTake from to conn seen
HasStopped _ from to conn seen = Unit {0}

-- All that a writer took and wrote, and why it ended: the desk's own events are these takes, and at last that the connection is gone; and
-- what was written is what the takes returned, with the serials from the first one on.
pub record WriterEnds (from to : Output) (old new : Place) (how : End) : Type 0 where
  pub seen : List Seen
  pub last : List Seen
  pub recorded : Records old new (seen ++ last)
  pub takes : List (List Out)
  pub own : own_in seen ≡ map (take_event old.told.conn) takes
  pub wrote : HasWritten how from to (spelled_behind 0 (given seen))
  pub cause : WroteFor how (told_after old.told seen) from to
  pub gone : GoneFor how old.told.conn new.told.state last
  pub stopped : HasStopped how from to old.told.conn seen

-- ---- one take after the other

-- what is done with what a take returned: outputs are written, and anything else ends the writer
abbrev pub SendsTaken : Taken → ℕ → ℕ → Output → Output → Result Unit End → Type 0
SendsTaken (taken.Outs outs) serials behind from to result = Sends outs serials behind from to result
SendsTaken taken.Empty serials behind from to result = ⊥
SendsTaken taken.Overrun serials behind from to result = (result ≡ Err end.Overrun) × (to ≡ from)
SendsTaken taken.Closed serials behind from to result = (result ≡ Err end.Done) × (to ≡ from)
SendsTaken taken.Missing serials behind from to result = (result ≡ Err end.OtherEnded) × (to ≡ from)

-- one take, and what is done with it
pub record WritesNext (old new : Place) (serials behind : ℕ) (from to : Output) (result : Result Unit End) : Type 0 where
  pub taken : Taken
  pub takes : Takes old new taken
  pub sends : SendsTaken taken serials behind from to result

-- so far: the desk's own events are these takes, and what they returned is written
pub record WrittenSoFar (from to : Output) (old new : Place) (serials : ℕ) : Type 0 where
  pub seen : List Seen
  pub recorded : Records old new seen
  pub takes : List (List Out)
  pub own : own_in seen ≡ map (take_event old.told.conn) takes
  pub wrote : Gave from to (spelled_behind 0 (given seen))
  pub behind : AreBehind (length (given seen)) serials

-- what was recorded after the last take before it reports to the desk that the connection is gone
abbrev pub LastFor : End → ConnId → List Seen → Type 0
LastFor end.Done conn last = last ≡ gone_event conn ∷ []
LastFor _ conn last = last ≡ []

-- all that was taken and written before that
pub record WritesOn (from to : Output) (old new : Place) (how : End) : Type 0 where
  pub seen : List Seen
  pub last : List Seen
  pub recorded : Records old new (seen ++ last)
  pub takes : List (List Out)
  pub own : own_in seen ≡ map (take_event old.told.conn) takes
  pub wrote : HasWritten how from to (spelled_behind 0 (given seen))
  pub cause : WroteFor how (told_after old.told seen) from to
  pub last_is : LastFor how old.told.conn last
  pub stopped : HasStopped how from to old.told.conn seen
