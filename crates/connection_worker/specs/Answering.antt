-- Serving one method call, and the calls in a framer.
use Rattle.std.specs.Prelude.{◌≡◌, ℕ, ◌+◌, ◌≤◌, ◌==◌, true, List, [], ◌∷◌, ◌++◌, length, Result, Ok, Err}
use Rattle.dbus_framing.specs.Framers.{Framing}
use Rattle.dbus_framing.specs.Messages.{Parts}
use Rattle.dbus_framing.specs.Streams.{Cut, Stream, Breaks, BreaksNone}
use Rattle.call_wire.specs.CallOf.{CallOf}
use Rattle.connection_worker.specs.declared.ending.End.{End}
use Rattle.connection_worker.specs.declared.ending.End.TheVariants as end
use Rattle.connection_worker.specs.Arrivals.{calls_in, AreRequests, FirstRequests}
use Rattle.connection_worker.specs.Fitting.{FitTogether, HasFit}
use Rattle.connection_worker.specs.Sending.{AreBehind}
use Rattle.connection_worker.specs.Serving.{World, IsIdle, IsOwed, Recorded, EndsEarly}
use Rattle.service_desk.specs.service_events.specs.Single.{AllFinished, AreFinished, TimedRequest, requests_of, turns}
use Rattle.connection_worker.specs.Stopping.{StopsFor}
use Rattle.connection_worker.specs.Streams.{Output, StaysAsOpen, Gave}
use Rattle.connection_worker.specs.Written.{given_by, written_after}

-- the request of this message, or none
abbrev pub IsOne : Parts → List TimedRequest → Type 0
IsOne parts [] = Unit {0}
IsOne parts (asked ∷ []) = CallOf parts asked.request
IsOne parts (asked ∷ other ∷ more) = ⊥

-- These requests were recorded, and all that they gave was written.
pub record Answered (old new : World) (serials behind : ℕ) (from to : Output) (asked : List TimedRequest) : Type 0 where
  pub recorded : Recorded old new asked [] []
  pub finished : AllFinished old.told.conn old.told.state asked
  pub idle : IsOwed new.told []
  pub fit : FitTogether old.told.conn old.told.state asked
  pub as_open : StaysAsOpen from to
  pub wrote : (taken : ℕ) → AreBehind taken serials
      → Gave from to (written_after old.told.conn taken old.told.state (turns old.told.conn old.told.state asked))
      × AreBehind (taken + length (given_by old.told.conn old.told.state (turns old.told.conn old.told.state asked))) behind

-- the ends at which complete requests may be left over
abbrev pub IsEarly : End → Type 0
IsEarly end.EventsSpent = Unit {0}
IsEarly end.WriteFault = Unit {0}
IsEarly end.Overrun = Unit {0}
IsEarly end.Memory = Unit {0}
IsEarly _ = ⊥

-- at which of these ends a request, or a key of which this moment was taken, was refused: one if the desk refused since no further event can
-- be counted; one or none if memory ran out, since the serving may lack it too; and none if the sink failed
-- or an output was lost
abbrev pub MayRefuse : End → List TimedRequest → List ℕ → Type 0
MayRefuse end.EventsSpent refused late = length refused + length late ≡ 1
MayRefuse end.Memory refused late = length refused + length late ≤ 1
MayRefuse _ refused late = (refused ≡ []) × (late ≡ [])

-- These requests were recorded, and then the serving ended early, perhaps at a request that was refused, or at the key of the last one.
pub record Broke (old new : World) (serials : ℕ) (from to : Output) (asked : List TimedRequest) (why : End) : Type 0 where
  pub early : IsEarly why
  pub refused : List TimedRequest
  pub late : List ℕ
  pub few : MayRefuse why refused late
  pub recorded : Recorded old new asked refused late
  pub finished : AreFinished old.told.conn old.told.state (asked ++ refused)
  pub idle : IsIdle new.told
  pub fit : HasFit why old.told.conn old.told.state asked
  pub wrote : (taken : ℕ) → AreBehind taken serials
      → EndsEarly why new.told.count from to (written_after old.told.conn taken old.told.state (turns old.told.conn old.told.state asked))
  pub stops : (taken : ℕ) → AreBehind taken serials
      → StopsFor why from to old.told.conn taken old.told.state (turns old.told.conn old.told.state asked)

-- the call was answered, or the serving ended early
abbrev pub AnswersCall : Parts → World → World → ℕ → ℕ → Output → Output → Result Unit End → Type 0
AnswersCall parts old new serials behind from to (Ok done) = (asked : TimedRequest) × CallOf parts asked.request × Answered old new serials behind from to (asked ∷ [])
AnswersCall parts old new serials behind from to (Err why) =
    (asked : List TimedRequest) × (broke : Broke old new serials from to asked why) × IsOne parts (asked ++ broke.refused)

-- a message was served, with the request in it if it is a call; or the serving ended early at a call
abbrev pub AnswersMessage : Parts → World → World → ℕ → ℕ → Output → Output → Result Unit End → Type 0
AnswersMessage parts old new serials behind from to (Ok done) =
    (asked : List TimedRequest) × AreRequests (calls_in (parts ∷ [])) (requests_of asked) × Answered old new serials behind from to asked
AnswersMessage parts old new serials behind from to (Err why) =
    (asked : List TimedRequest) × (broke : Broke old new serials from to asked why) × ((parts.kind == 1) ≡ true) × IsOne parts (asked ++ broke.refused)

-- So far: a prefix of the bytes is messages, whose requests were recorded and answered; this rest is left over.
pub record ServedPrefix (most : ℕ) (bytes rest : List ℕ) (old new : World) (serials behind : ℕ) (from to : Output) : Type 0 where
  pub asked : List TimedRequest
  pub messages : List Parts
  pub cut : Cut most bytes messages rest
  pub are : AreRequests (calls_in messages) (requests_of asked)
  pub answered : Answered old new serials behind from to asked

-- the serving ended early, after the first requests
abbrev pub AnswersEarly : Framing → World → World → ℕ → Output → Output → End → Type 0
AnswersEarly has old new serials from to why =
    (asked : List TimedRequest) × (broke : Broke old new serials from to asked why) × FirstRequests has.most has.rest (requests_of (asked ++ broke.refused))

-- The complete messages were served, no further one is complete, and the rest shows no violation; or after them a violation
-- shows; or the serving ended early.
abbrev pub AnswersAll : Framing → Framing → World → World → ℕ → ℕ → Output → Output → Result Unit End → Type 0
AnswersAll has left old new serials behind from to (Ok done) =
    (going : ServedPrefix has.most has.rest left.rest old new serials behind from to) × Stream has.most has.rest going.messages left.rest × (left.most ≡ has.most) × BreaksNone has.most left.rest
AnswersAll has left old new serials behind from to (Err (end.Violation cause)) =
    (going : ServedPrefix has.most has.rest left.rest old new serials behind from to) × Stream has.most has.rest going.messages left.rest × Breaks has.most left.rest cause
AnswersAll has left old new serials behind from to (Err why) = AnswersEarly has old new serials from to why
