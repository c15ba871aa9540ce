-- The reader of a connection: it hands the calls in what it reads to its desk, and brings the keys that their answers ask for.
use Rattle.std.specs.Prelude.{◌≡◌, ℕ, ◌+◌, ◌⊎◌, ◌==◌, Bool, true, IsTrue, List, [], ◌∷◌, ◌++◌, length, map, Option, None, Some, Result, Ok, Err}
use Rattle.std.specs.List.{AllByRecursion, flat_map}
use Rattle.std.specs.Option.{is_some}
use Rattle.std.specs.Io.KnownBytes.{IsAtEnd}
use Rattle.kr_base.specs.declared.ids.ConnId.{ConnId}
use Rattle.kr_outside.specs.Faults.{Rose}
use Rattle.dbus_framing.specs.Framers.{Framing}
use Rattle.dbus_framing.specs.Messages.{Parts}
use Rattle.dbus_framing.specs.Streams.{Cut, Stream, Breaks, BreaksNone}
use Rattle.service_desk.specs.secret_calls.specs.declared.call.Request.{Request}
use Rattle.service_desk.specs.secret_calls.specs.declared.taken.Refused.{Refused}
use Rattle.service_desk.specs.secret_calls.specs.declared.taken.Refused.TheVariants as refusal
use Rattle.service_desk.specs.secret_calls.specs.declared.work.Work.{Work}
use Rattle.service_desk.specs.service_tables.specs.State.{State}
use Rattle.service_desk.specs.service_events.specs.declared.event.Event.TheVariants as event
use Rattle.service_desk.specs.service_events.specs.declared.event.Output.TheVariants as output
use Rattle.service_desk.specs.service_events.specs.Single.{TimedKey, TimedRequest, arrival, derivation, moments_of, requests_of}
use Rattle.service_desk.specs.service_events.specs.Step.{IsMissing}
use Rattle.service_desk.specs.Calls.{IsRefusal, IsToldOf}
use Rattle.service_desk.specs.Places.{Told}
use Rattle.service_desk.specs.Records.{Seen, Own, Records}
use Rattle.connection_worker.specs.declared.ending.End.{End}
use Rattle.connection_worker.specs.declared.ending.End.TheVariants as end
use Rattle.connection_worker.specs.Answering.{IsOne}
use Rattle.connection_worker.specs.Arrivals.{calls_in, AreRequests, AllRequests, FirstRequests}
use Rattle.connection_worker.specs.Causes.{IsViolated}
use Rattle.connection_worker.specs.Handshakes.{most_bytes}
use Rattle.connection_worker.specs.Serving.{World, place_of, GivesMoments, GivesSalts}
use Rattle.connection_worker.specs.Sides.{own_in, told_after}
use Rattle.connection_worker.specs.Streams.{Input, Took, IsStill}

-- ---- the desk's own events

-- a request that the desk recorded, and the work that it gave in answer
pub record Handled : Type 0 where
  pub asked : TimedRequest
  pub work : Option Work

-- the requests, as they were recorded
abbrev pub all_asked : List Handled → List TimedRequest
all_asked handled = map (λ (h : Handled). h.asked) handled

-- the event of the key of work, if it was recorded
abbrev pub key_event : ConnId → Option Work → Option TimedKey → List Seen
key_event conn None key = []
key_event conn (Some work) None = []
key_event conn (Some work) (Some key) = Own (derivation conn work key) output.Derived ∷ []

-- the events of a request: its own, with the work that was given in answer, and that of its key
abbrev pub own_events : ConnId → Handled → List Seen
own_events conn h = Own (arrival conn h.asked) (output.Arrived (record { work = h.work })) ∷ key_event conn h.work h.asked.key

-- those of requests, one after the other
abbrev pub all_events : ConnId → List Handled → List Seen
all_events conn handled = flat_map (own_events conn) handled

-- the request has its key exactly if it gave work
abbrev pub HasKey : Handled → Type 0
HasKey h = is_some h.asked.key ≡ is_some h.work

-- the request gave work and lacks its key
pub record LacksKey (h : Handled) : Type 0 where
  pub work : IsTrue (is_some h.work)
  pub key : h.asked.key ≡ None

-- Each request that gave work has its key; but the last one lacks it if its key was refused, at this moment.
abbrev pub AreKeyed : List Handled → List ℕ → Type 0
AreKeyed handled [] = AllByRecursion HasKey handled
AreKeyed handled (moment ∷ []) =
    (before : List Handled) × (last : Handled) × (handled ≡ before ++ last ∷ []) × AllByRecursion HasKey before × LacksKey last
AreKeyed handled (moment ∷ other ∷ more) = ⊥

-- These requests were handed in: each took a moment and a salt, and its key a further moment, and the desk's own events are theirs. The desk
-- refused these further requests, for which a moment and a salt were taken, and the keys for which these moments were.
pub record HandedIn (old new : World) (seen : List Seen) (handled : List Handled) (refused : List TimedRequest) (late : List ℕ) : Type 0 where
  pub own : own_in seen ≡ all_events old.told.conn handled
  pub keyed : AreKeyed handled late
  pub moments : GivesMoments old.coming (moments_of (all_asked handled) ++ (map (λ (a : TimedRequest). a.now) refused ++ late)) new.coming
  pub salts : GivesSalts old.salting (map (λ (a : TimedRequest). a.salt) (all_asked handled ++ refused)) new.salting

-- ---- why a reader ends

-- What the desk refused, by what it had seen then: one request or one key if it refused for a cause; one or none if memory ran out, since the
-- reader may lack it too; and none at any other end. So a refusal of the desk leads to the end of its cause.
abbrev pub RefusedFor : End → Told → List TimedRequest → List ℕ → Type 0
RefusedFor end.EventsSpent told refused late = IsRefusal refusal.EventsSpent told × (length refused + length late ≡ 1)
RefusedFor end.OtherEnded told refused late = IsRefusal refusal.Gone told × (length refused + length late ≡ 1)
RefusedFor end.Memory told refused late = ((refused ≡ []) × (late ≡ [])) ⊎ (IsRefusal refusal.OutOfMemory told × (length refused + length late ≡ 1))
RefusedFor _ told refused late = (refused ≡ []) × (late ≡ [])

-- Which requests of the bytes were handed in by each end, and what the input shows. Its count of faults rose if it failed, and didn't rise at
-- any other end.
abbrev pub ReadFor : End → List ℕ → List Request → Input → Input → Type 0
-- each call was handed in, and the input ended between two messages
ReadFor end.Done bytes requests from to = AllRequests most_bytes bytes requests [] × IsAtEnd to.left × IsStill from to
-- each call was handed in, and the rest breaks a rule
ReadFor (end.Violation cause) bytes requests from to = ((rest : List ℕ) × AllRequests most_bytes bytes requests rest × IsViolated cause to rest) × IsStill from to
-- each complete call was handed in, the rest shows no violation, and the input failed
ReadFor end.ReadFault bytes requests from to = ((rest : List ℕ) × AllRequests most_bytes bytes requests rest × BreaksNone most_bytes rest) × Rose from.faults to.faults
-- the first calls were, up to the one at which the desk refused or memory ran out
ReadFor end.EventsSpent bytes requests from to = FirstRequests most_bytes bytes requests × IsStill from to
ReadFor end.OtherEnded bytes requests from to = FirstRequests most_bytes bytes requests × IsStill from to
ReadFor end.Memory bytes requests from to = FirstRequests most_bytes bytes requests × IsStill from to
-- a reader does no handshake, writes nothing and takes nothing
ReadFor _ bytes requests from to = ⊥

-- The ends of an input of complete messages whose source doesn't fail: each call was handed in, or the desk refused, or memory ran out.
abbrev pub IsWholeEnd : End → Type 0
IsWholeEnd end.Done = Unit {0}
IsWholeEnd end.EventsSpent = Unit {0}
IsWholeEnd end.OtherEnded = Unit {0}
IsWholeEnd end.Memory = Unit {0}
IsWholeEnd _ = ⊥

-- Of its own, the desk recorded a Leave; or nothing, since in this state, which it saw last, the connection isn't there or is leaving already.
abbrev pub HasLeft : ConnId → State → List Seen → Type 0
HasLeft conn state last =
    (own_in last ≡ Own (event.Leave conn) output.Left ∷ [])
    ⊎ ((own_in last ≡ [])
    × (IsMissing conn state
    ⊎ ((waits : Bool) × (overrun : Bool) × IsToldOf conn state waits overrun true)))

-- All that a reader read and handed in, and why it ended: the events of the requests were recorded, and at last a Leave.
pub record ReaderEnds (has : Framing) (from to : Input) (old new : World) (how : End) : Type 0 where
  pub read : List ℕ
  pub took : Took from to read
  pub seen : List Seen
  pub last : List Seen
  pub recorded : Records (place_of old) (place_of new) (seen ++ last)
  pub handled : List Handled
  pub refused : List TimedRequest
  pub late : List ℕ
  pub handed : HandedIn old new seen handled refused late
  pub left : HasLeft old.told.conn new.told.state last
  pub refusal : RefusedFor how (told_after old.told seen) refused late
  pub cause : ReadFor how (has.rest ++ read) (requests_of (all_asked handled ++ refused)) from to

-- ---- one call, and the calls in a framer

-- the end that a refusal of the desk leads to
abbrev pub end_for : Refused → End
end_for refusal.EventsSpent = end.EventsSpent
end_for refusal.Gone = end.OtherEnded
end_for refusal.OutOfMemory = end.Memory

-- These requests were handed in, and then the desk refused one or a key, or memory ran out.
pub record StopsAt (old new : World) (handled : List Handled) (refused : List TimedRequest) (why : End) : Type 0 where
  pub refusing : Refused
  pub is : why ≡ end_for refusing
  pub seen : List Seen
  pub recorded : Records (place_of old) (place_of new) seen
  pub late : List ℕ
  pub handed : HandedIn old new seen handled refused late
  pub refusal : RefusedFor why new.told refused late

-- the only one of these is this request
abbrev pub IsOnly : Request → List TimedRequest → Type 0
IsOnly request (asked ∷ []) = asked.request ≡ request
IsOnly request _ = ⊥

-- the request was handed in; or it was refused, or its key was
abbrev pub HandsIn : Request → World → World → Result Unit End → Type 0
HandsIn request old new (Ok done) =
    (h : Handled) × (seen : List Seen) × (h.asked.request ≡ request) × Records (place_of old) (place_of new) seen × HandedIn old new seen (h ∷ []) [] []
HandsIn request old new (Err why) =
    (handled : List Handled) × (refused : List TimedRequest) × IsOnly request (all_asked handled ++ refused) × StopsAt old new handled refused why

-- the request in a message was handed in, if it is a call; or the reader stops at the call
abbrev pub HandsInMessage : Parts → World → World → Result Unit End → Type 0
HandsInMessage parts old new (Ok done) =
    (handled : List Handled) × (seen : List Seen) × AreRequests (calls_in (parts ∷ [])) (requests_of (all_asked handled))
    × Records (place_of old) (place_of new) seen × HandedIn old new seen handled [] []
HandsInMessage parts old new (Err why) =
    (handled : List Handled) × (refused : List TimedRequest) × ((parts.kind == 1) ≡ true) × IsOne parts (all_asked handled ++ refused) × StopsAt old new handled refused why

-- So far: a prefix of the bytes is messages, whose requests were handed in; this rest is left over.
pub record HandedSoFar (most : ℕ) (bytes rest : List ℕ) (old new : World) : Type 0 where
  pub handled : List Handled
  pub messages : List Parts
  pub cut : Cut most bytes messages rest
  pub are : AreRequests (calls_in messages) (requests_of (all_asked handled))
  pub seen : List Seen
  pub recorded : Records (place_of old) (place_of new) seen
  pub handed : HandedIn old new seen handled [] []

-- The requests of the complete messages were handed in, no further one is complete, and the rest shows no violation; or after them a
-- violation shows; or the reader stops after the first requests.
abbrev pub HandsInAll : Framing → Framing → World → World → Result Unit End → Type 0
HandsInAll has left old new (Ok done) =
    (going : HandedSoFar has.most has.rest left.rest old new) × Stream has.most has.rest going.messages left.rest × (left.most ≡ has.most) × BreaksNone has.most left.rest
HandsInAll has left old new (Err (end.Violation cause)) =
    (going : HandedSoFar has.most has.rest left.rest old new) × Stream has.most has.rest going.messages left.rest × Breaks has.most left.rest cause
HandsInAll has left old new (Err why) =
    (handled : List Handled) × (refused : List TimedRequest) × FirstRequests has.most has.rest (requests_of (all_asked handled ++ refused)) × StopsAt old new handled refused why

-- ---- reading on

-- So far: these bytes were read, and the calls of the messages so far in them and in what the framer held were handed in.
pub record ReadSoFar (has : Framing) (from now : Input) (left : Framing) (old new : World) : Type 0 where
  pub read : List ℕ
  pub took : Took from now read
  pub still : IsStill from now
  pub most : left.most ≡ has.most
  pub going : HandedSoFar has.most (has.rest ++ read) left.rest old new

-- all that was read and handed in before the reader leaves
pub record ReadsOn (has : Framing) (from to : Input) (old new : World) (how : End) : Type 0 where
  pub read : List ℕ
  pub took : Took from to read
  pub seen : List Seen
  pub recorded : Records (place_of old) (place_of new) seen
  pub handled : List Handled
  pub refused : List TimedRequest
  pub late : List ℕ
  pub handed : HandedIn old new seen handled refused late
  pub refusal : RefusedFor how new.told refused late
  pub cause : ReadFor how (has.rest ++ read) (requests_of (all_asked handled ++ refused)) from to
