-- A reader hands requests in, one after the other.
use Rattle.std.proofs.Common.{◌≡◌, ℕ, ◌==◌, ◌⊎◌, Bool, true, false, inl, inr, List, [], ◌∷◌, ◌++◌, map, Option, Some, None, Result, Ok, Err, refl, sym, ◌∙◌, ap, arith, subst, append_assoc, append-nil}
use Rattle.std.proofs.lemmas.Grind.{flat_map-append}
use Rattle.std.proofs.lemmas.List.{map-append}
use Rattle.std.proofs.lemmas.List.Elements.{filter-append}
use Rattle.std.specs.List.{AllByRecursion}
use Rattle.kr_base.specs.declared.ids.ConnId.{ConnId}
use Rattle.kr_outside.specs.Clock.{GivesFirst}
use Rattle.dbus_framing.specs.declared.violation.Violation.TheVariants as violation
use Rattle.dbus_framing.specs.Framers.{Framing}
use Rattle.dbus_framing.specs.Messages.{Parts}
use Rattle.dbus_framing.specs.Streams.{Cut, Stream, Breaks, BreaksNone}
use Rattle.dbus_framing.proofs.Cuts.{cut_none, cut_then, cut_more, stream_then}
use Rattle.call_wire.specs.CallOf.{CallOf}
use Rattle.service_desk.specs.secret_calls.specs.declared.call.Request.{Request}
use Rattle.service_desk.specs.secret_calls.specs.declared.taken.Refused.{Refused}
use Rattle.service_desk.specs.secret_calls.specs.declared.taken.Refused.TheVariants as refusal
use Rattle.service_desk.specs.secret_calls.specs.declared.work.Work.{Work}
use Rattle.service_desk.specs.secret_calls.specs.Works.{finished}
use Rattle.service_desk.specs.service_tables.specs.declared.fate.Fate.{Fate}
use Rattle.service_desk.specs.service_tables.proofs.EachLemmas.{each-append}
use Rattle.service_desk.specs.service_events.specs.declared.event.Event.TheVariants as event
use Rattle.service_desk.specs.service_events.specs.declared.event.Output.TheVariants as output
use Rattle.service_desk.specs.service_events.specs.Step.{IsMissing}
use Rattle.service_desk.specs.service_events.specs.Single.{TimedRequest, arrival, derivation, moments_of, requests_of}
use Rattle.service_desk.specs.Calls.{Arrives, Finishes, IsRefusal, IsToldOf, Leaves}
use Rattle.service_desk.specs.Places.{Told, Place, Looks, Extends}
use Rattle.service_desk.specs.Records.{Seen, Own, Records}
use Rattle.service_desk.proofs.RecordLemmas.{records-none, records-more}
use Rattle.connection_worker.specs.declared.ending.End.{End}
use Rattle.connection_worker.specs.declared.ending.End.TheVariants as end
use Rattle.connection_worker.specs.Answering.{IsOne}
use Rattle.connection_worker.specs.Arrivals.{calls_in, AllRequests, FirstRequests}
use Rattle.connection_worker.specs.Handshakes.{most_bytes}
use Rattle.connection_worker.specs.Reader.{Handled, all_asked, own_events, all_events, HasKey, AreKeyed, HandedIn, RefusedFor, ReadFor, HasLeft, ReaderEnds, end_for, StopsAt, IsOnly, HandsIn, HandsInMessage, HandedSoFar, HandsInAll, ReadSoFar, ReadsOn}
use Rattle.connection_worker.specs.Salts.{words_at}
use Rattle.connection_worker.specs.Serving.{World, place_of, behind_salt}
use Rattle.connection_worker.specs.ServingOn.{FeedsMore}
use Rattle.connection_worker.specs.Sides.{told_after}
use Rattle.connection_worker.specs.Streams.{Input, IsStill}
use Rattle.connection_worker.proofs.HandshakeLemmas.{rose-later}
use Rattle.connection_worker.proofs.MessageLemmas.{all-stream, are-append}
use Rattle.connection_worker.proofs.RecordLemmas.{GivesMoments-append, GivesSalts-append}
use Rattle.connection_worker.proofs.ServeLemmas.{shown, stays}
use Rattle.connection_worker.proofs.ServingLemmas.{is-derivation, key_in}
use Rattle.connection_worker.proofs.SideLemmas.{saw-looks, saw-extends, saw-more, own_in-append, refusal-seen}
use Rattle.connection_worker.proofs.StreamLemmas.{Took-none, Took-trans}

-- ---- requests that were handed in one after the other

pub handed-none : (w : World) → HandedIn w w [] [] [] []
handed-none w = record { own = refl; keyed = tt; moments = refl; salts = refl }

keyed-more : (one more : List Handled) (late : List ℕ) → AllByRecursion HasKey one → AreKeyed more late → AreKeyed (one ++ more) late
keyed-more one more [] all are = each-append HasKey one more all are
keyed-more one more (moment ∷ []) all are = (
  one ++ are.0,
  are.1,
  ap (λ l. one ++ l) are.2 ∙ sym (append_assoc one are.0 (are.1 ∷ [])),
  each-append HasKey one are.0 all are.3,
  are.4,
)
keyed-more one more (moment ∷ other ∷ rest) all are = absurd are

pub handed-more : (old mid new : World) (seen further : List Seen) (one more : List Handled) (refused : List TimedRequest) (late : List ℕ) → mid.told.conn ≡ old.told.conn
    → HandedIn old mid seen one [] [] → HandedIn mid new further more refused late → HandedIn old new (seen ++ further) (one ++ more) refused late
handed-more old mid new seen further one more refused late conn p q =
    let salt = λ (a : TimedRequest). a.salt in
    let rest = map (λ (a : TimedRequest). a.now) refused ++ late in
    let these : all_asked (one ++ more) ≡ all_asked one ++ all_asked more = map-append (λ (h : Handled). h.asked) one more in
    record {
      own =
          own_in-append seen further ∙ (λ i. p.own i ++ (q.own ∙ ap (λ c. all_events c more) conn) i)
          ∙ sym (flat_map-append (own_events old.told.conn) one more);
      keyed = keyed-more one more late p.keyed q.keyed;
      moments =
          let e : moments_of (all_asked (one ++ more)) ++ rest ≡ (moments_of (all_asked one) ++ []) ++ (moments_of (all_asked more) ++ rest) =
          ap (λ l. moments_of l ++ rest) these ∙ ap (λ l. l ++ rest) (flat_map-append _ (all_asked one) (all_asked more))
          ∙ append_assoc (moments_of (all_asked one)) (moments_of (all_asked more)) rest
          ∙ ap (λ l. l ++ (moments_of (all_asked more) ++ rest)) (sym (append-nil (moments_of (all_asked one)))) in
          rw e (GivesMoments-append old.coming mid.coming new.coming (moments_of (all_asked one) ++ []) (moments_of (all_asked more) ++ rest) p.moments q.moments);
      salts =
          let e : map salt (all_asked (one ++ more) ++ refused) ≡ map salt (all_asked one ++ []) ++ map salt (all_asked more ++ refused) =
          ap (λ l. map salt (l ++ refused)) these ∙ ap (map salt) (append_assoc (all_asked one) (all_asked more) refused)
          ∙ ap (λ l. map salt (l ++ (all_asked more ++ refused))) (sym (append-nil (all_asked one)))
          ∙ map-append salt (all_asked one ++ []) (all_asked more ++ refused) in
          rw e (GivesSalts-append old.salting mid.salting new.salting (map salt (all_asked one ++ [])) (map salt (all_asked more ++ refused)) p.salts q.salts);
    }

-- a refusal after others were handed in
stops-more : (old mid new : World) (seen : List Seen) (one more : List Handled) (refused : List TimedRequest) (why : End) → Records (place_of old) (place_of mid) seen
    → HandedIn old mid seen one [] [] → StopsAt mid new more refused why → StopsAt old new (one ++ more) refused why
stops-more old mid new seen one more refused why so handed stops = record {
  refusing = stops.refusing;
  is = stops.is;
  seen = seen ++ stops.seen;
  recorded = records-more (place_of old) (place_of mid) (place_of new) seen stops.seen so stops.recorded;
  late = stops.late;
  handed = handed-more old mid new seen stops.seen one more refused stops.late so.same.conn handed stops.handed;
  refusal = stops.refusal;
}

-- memory ran out before any was
stops-memory : (w : World) → StopsAt w w [] [] end.Memory
stops-memory w = record {
  refusing = refusal.OutOfMemory;
  is = refl;
  seen = [];
  recorded = records-none (place_of w);
  late = [];
  handed = handed-none w;
  refusal = inl (refl, refl);
}

-- ---- one request

-- a request as it is handed in, before a key is derived for it
abbrev pub timed : Request → ℕ → List ℕ → List Fate → TimedRequest
timed request now salt fates = record { request = request; now = now; salt = salt; fates = fates; key = None }

-- it gave no work
pub hands-one : (request : Request) (now : ℕ) (salt : List ℕ) (old new : World)
    → Arrives (place_of old) (place_of new) (record { conn = old.told.conn; request = request; now = now; salt = salt }) None
    → GivesFirst old.coming now new.coming → salt ≡ words_at old.salting.key old.salting.stream old.salting.place → new.salting ≡ behind_salt old.salting
    → HandsIn request old new (Ok tt)
hands-one request now salt old new so first drawn salting =
    let asked = timed request now salt so.fates in
    let saw = saw-extends (place_of old) (place_of new) (arrival old.told.conn asked) (output.Arrived (record { work = None })) so.recorded in (
      record { asked = asked; work = None },
      saw.0,
      refl,
      saw.1,
      record { own = saw.2; keyed = (refl, tt); moments = (new.coming, first, refl); salts = (drawn, salting) },
    )

-- its key was recorded
pub hands-key : (request : Request) (now later : ℕ) (salt : List ℕ) (work : Work) (between : Option (ℕ → ℕ)) (old : World) (mid : Place) (new : World)
    → Arrives (place_of old) mid (record { conn = old.told.conn; request = request; now = now; salt = salt }) (Some work)
    → Finishes mid (place_of new) (record { conn = mid.told.conn; done = finished work; now = later })
    → GivesFirst old.coming now between → GivesFirst between later new.coming
    → salt ≡ words_at old.salting.key old.salting.stream old.salting.place → new.salting ≡ behind_salt old.salting
    → HandsIn request old new (Ok tt)
hands-key request now later salt work between old mid new so did first second drawn salting =
    let key = key_in did.came in
    let asked : TimedRequest = record { request = request; now = now; salt = salt; fates = so.fates; key = Some key } in
    let conn = old.told.conn in
    let is : event.Derived did.came ≡ derivation conn work key =
    is-derivation mid.told work later did.came did.is ∙ ap (λ c. derivation c work key) so.recorded.same.conn in
    let one = saw-extends (place_of old) mid (arrival conn asked) (output.Arrived (record { work = Some work })) so.recorded in
    let two = saw-extends mid (place_of new) (derivation conn work key) output.Derived (subst (λ e. Extends mid (place_of new) e output.Derived) is did.recorded) in
    let both = saw-more (place_of old) mid (place_of new) (Own (arrival conn asked) (output.Arrived (record { work = Some work })) ∷ []) (Own (derivation conn work key) output.Derived ∷ []) one two in (
      record { asked = asked; work = Some work },
      both.0,
      refl,
      both.1,
      record { own = both.2; keyed = (refl, tt); moments = (between, first, (new.coming, rw did.is.now second, refl)); salts = (drawn, salting) },
    )

-- the desk refused it
pub hands-refused : (request : Request) (now : ℕ) (salt : List ℕ) (why : Refused) (old new : World) → Looks (place_of old) (place_of new) → IsRefusal why new.told
    → GivesFirst old.coming now new.coming → salt ≡ words_at old.salting.key old.salting.stream old.salting.place → new.salting ≡ behind_salt old.salting
    → HandsIn request old new (Err (end_for why))
hands-refused request now salt why old new so is first drawn salting =
    let asked = timed request now salt [] in
    let saw = saw-looks (place_of old) (place_of new) so in (
      [],
      asked ∷ [],
      refl,
      record {
        refusing = why;
        is = refl;
        seen = saw.0;
        recorded = saw.1;
        late = [];
        handed = record { own = saw.2; keyed = tt; moments = (new.coming, first, refl); salts = (drawn, salting) };
        refusal = refused-one why new.told asked is;
      },
    )
  where
    refused-one : (why : Refused) (told : Told) (asked : TimedRequest) → IsRefusal why told → RefusedFor (end_for why) told (asked ∷ []) []
    refused-one refusal.EventsSpent told asked is = (is, omega arith)
    refused-one refusal.Gone told asked is = (is, omega arith)
    refused-one refusal.OutOfMemory told asked is = inr (is, omega arith)

-- the desk refused its key
pub hands-late : (request : Request) (now later : ℕ) (salt : List ℕ) (work : Work) (why : Refused) (between : Option (ℕ → ℕ)) (old : World) (mid : Place) (new : World)
    → Arrives (place_of old) mid (record { conn = old.told.conn; request = request; now = now; salt = salt }) (Some work)
    → Looks mid (place_of new) → IsRefusal why new.told
    → GivesFirst old.coming now between → GivesFirst between later new.coming
    → salt ≡ words_at old.salting.key old.salting.stream old.salting.place → new.salting ≡ behind_salt old.salting
    → HandsIn request old new (Err (end_for why))
hands-late request now later salt work why between old mid new so looked is first second drawn salting =
    let asked = timed request now salt so.fates in
    let h : Handled = record { asked = asked; work = Some work } in
    let conn = old.told.conn in
    let one = saw-extends (place_of old) mid (arrival conn asked) (output.Arrived (record { work = Some work })) so.recorded in
    let both = saw-more (place_of old) mid (place_of new) (Own (arrival conn asked) (output.Arrived (record { work = Some work })) ∷ []) [] one (saw-looks mid (place_of new) looked) in (
      h ∷ [],
      [],
      refl,
      record {
        refusing = why;
        is = refl;
        seen = both.0;
        recorded = both.1;
        late = later ∷ [];
        handed = record {
          own = both.2;
          keyed = ([], h, refl, tt, record { work = refl; key = refl });
          moments = (between, first, (new.coming, second, refl));
          salts = (drawn, salting);
        };
        refusal = refused-key why new.told later is;
      },
    )
  where
    refused-key : (why : Refused) (told : Told) (later : ℕ) → IsRefusal why told → RefusedFor (end_for why) told [] (later ∷ [])
    refused-key refusal.EventsSpent told later is = (is, omega arith)
    refused-key refusal.Gone told later is = (is, omega arith)
    refused-key refusal.OutOfMemory told later is = inr (is, omega arith)

-- ---- one message

-- it isn't a call
pub message-other : (parts : Parts) (w : World) → (parts.kind == 1) ≡ false → HandsInMessage parts w w (Ok tt)
message-other parts w isnt = ([], [], rw isnt tt, records-none (place_of w), handed-none w)

-- there was no memory for its request
pub message-unread : (parts : Parts) (w : World) → (parts.kind == 1) ≡ true → HandsInMessage parts w w (Err end.Memory)
message-unread parts w is = ([], [], is, tt, stops-memory w)

only-one : (parts : Parts) (request : Request) (asked : List TimedRequest) → CallOf parts request → IsOnly request asked → IsOne parts asked
only-one parts request [] call is = absurd is
only-one parts request (a ∷ []) call is = subst (λ r. CallOf parts r) (sym is) call
only-one parts request (a ∷ b ∷ more) call is = absurd is

pub message-call : (parts : Parts) (request : Request) (old new : World) (result : Result Unit End) → (parts.kind == 1) ≡ true → CallOf parts request → HandsIn request old new result
    → HandsInMessage parts old new result
message-call parts request old new (Ok done) is call hands =
    (hands.0 ∷ [], hands.1, rw is (subst (λ r. CallOf parts r) (sym hands.2) call, tt), hands.3, hands.4)
message-call parts request old new (Err why) is call hands =
    (hands.0, hands.1, is, only-one parts request (all_asked hands.0 ++ hands.1) call hands.2, hands.3)

-- ---- messages one after the other

pub so-none : (most : ℕ) (bytes : List ℕ) (w : World) → HandedSoFar most bytes bytes w w
so-none most bytes w = record {
  handled = [];
  messages = [];
  cut = cut_none most bytes;
  are = tt;
  seen = [];
  recorded = records-none (place_of w);
  handed = handed-none w;
}

requests-append : (one more : List Handled) → requests_of (all_asked (one ++ more)) ≡ requests_of (all_asked one) ++ requests_of (all_asked more)
requests-append one more =
    ap requests_of (map-append (λ (h : Handled). h.asked) one more) ∙ map-append (λ (a : TimedRequest). a.request) (all_asked one) (all_asked more)

-- one more message
pub so-on : (most : ℕ) (bytes rest left : List ℕ) (old mid new : World) (parts : Parts) → HandedSoFar most bytes rest old mid → Cut most rest (parts ∷ []) left
    → HandsInMessage parts mid new (Ok tt) → HandedSoFar most bytes left old new
so-on most bytes rest left old mid new parts so cut hands = record {
  handled = so.handled ++ hands.0;
  messages = so.messages ++ parts ∷ [];
  cut = cut_then most bytes rest left so.messages (parts ∷ []) so.cut cut;
  are =
      rw (filter-append (λ (p : Parts). p.kind == 1) so.messages (parts ∷ []), requests-append so.handled hands.0)
      (are-append (calls_in so.messages) (requests_of (all_asked so.handled)) (calls_in (parts ∷ [])) (requests_of (all_asked hands.0)) so.are hands.2);
  seen = so.seen ++ hands.1;
  recorded = records-more (place_of old) (place_of mid) (place_of new) so.seen hands.1 so.recorded hands.3;
  handed = handed-more old mid new so.seen hands.1 so.handled hands.0 [] [] so.recorded.same.conn so.handed hands.4;
}

-- no further message is complete
pub so-last : (most : ℕ) (bytes rest left : List ℕ) (old mid : World) → (so : HandedSoFar most bytes rest old mid) → Stream most rest [] left
    → (going : HandedSoFar most bytes left old mid) × Stream most bytes going.messages left
so-last most bytes rest left old mid so stream =
    let whole = all-stream most bytes rest left so.messages so.cut stream in
    (record { handled = so.handled; messages = so.messages; cut = whole.cut; are = so.are; seen = so.seen; recorded = so.recorded; handed = so.handed }, whole)

-- the first requests, and those of the messages after them
first-then : (most : ℕ) (bytes rest : List ℕ) (old mid : World) (more : List TimedRequest) → (so : HandedSoFar most bytes rest old mid) → FirstRequests most rest (requests_of more)
    → FirstRequests most bytes (requests_of (all_asked so.handled ++ more))
first-then most bytes rest old mid more so first = record {
  messages = so.messages ++ first.messages;
  rest = first.rest;
  cut = cut_then most bytes rest first.rest so.messages first.messages so.cut first.cut;
  more = first.more;
  are =
      rw (
        filter-append (λ (x : Parts). x.kind == 1) so.messages first.messages,
        map-append (λ (b : TimedRequest). b.request) (all_asked so.handled) more,
        append_assoc (requests_of (all_asked so.handled)) (requests_of more) first.more,
      )
      (are-append (calls_in so.messages) (requests_of (all_asked so.handled)) (calls_in first.messages) (requests_of more ++ first.more) so.are first.are);
}

-- none of them
first-none : (most : ℕ) (bytes : List ℕ) → FirstRequests most bytes []
first-none most bytes = record { messages = []; rest = bytes; cut = cut_none most bytes; more = []; are = tt }

-- that of one message
first-one : (most : ℕ) (rest left : List ℕ) (parts : Parts) (asked : List TimedRequest) → Cut most rest (parts ∷ []) left → (parts.kind == 1) ≡ true → IsOne parts asked
    → FirstRequests most rest (requests_of asked)
first-one most rest left parts [] cut is one = first-none most rest
first-one most rest left parts (a ∷ []) cut is one = record { messages = parts ∷ []; rest = left; cut = cut; more = []; are = rw is (one, tt) }
first-one most rest left parts (a ∷ b ∷ more) cut is one = absurd one

-- ---- a reader that stops

-- after some requests it stopped at these
stops-then : (most : ℕ) (bytes rest : List ℕ) (old mid new : World) (more : List Handled) (refused : List TimedRequest) (why : End) → (so : HandedSoFar most bytes rest old mid)
    → FirstRequests most rest (requests_of (all_asked more ++ refused)) → StopsAt mid new more refused why
    → (handled : List Handled) × FirstRequests most bytes (requests_of (all_asked handled ++ refused)) × StopsAt old new handled refused why
stops-then most bytes rest old mid new more refused why so first stops =
    let e : all_asked (so.handled ++ more) ++ refused ≡ all_asked so.handled ++ (all_asked more ++ refused) =
    ap (λ l. l ++ refused) (map-append (λ (h : Handled). h.asked) so.handled more) ∙ append_assoc (all_asked so.handled) (all_asked more) refused in (
      so.handled ++ more,
      rw e (first-then most bytes rest old mid (all_asked more ++ refused) so first),
      stops-more old mid new so.seen so.handled more refused why so.recorded so.handed stops,
    )

-- it stops for one of these ends
stops-early : (has left : Framing) (old new : World) (handled : List Handled) (refused : List TimedRequest) (why : End)
    → FirstRequests has.most has.rest (requests_of (all_asked handled ++ refused)) → StopsAt old new handled refused why → HandsInAll has left old new (Err why)
stops-early has left old new handled refused why first stops =
    subst (λ how. HandsInAll has left old new (Err how)) (sym stops.is)
    (pass stops.refusing (handled, refused, first, subst (λ how. StopsAt old new handled refused how) stops.is stops))
  where
    pass : (refusing : Refused)
        → (handled : List Handled) × (refused : List TimedRequest) × FirstRequests has.most has.rest (requests_of (all_asked handled ++ refused)) × StopsAt old new handled refused (end_for refusing)
        → HandsInAll has left old new (Err (end_for refusing))
    pass refusal.EventsSpent so = so
    pass refusal.Gone so = so
    pass refusal.OutOfMemory so = so

-- at a message
pub so-stops : (has left : Framing) (rest behind : List ℕ) (old mid new : World) (parts : Parts) (why : End) → HandedSoFar has.most has.rest rest old mid
    → Cut has.most rest (parts ∷ []) behind → HandsInMessage parts mid new (Err why) → HandsInAll has left old new (Err why)
so-stops has left rest behind old mid new parts why so cut hands =
    let all = stops-then has.most has.rest rest old mid new hands.0 hands.1 why so (first-one has.most rest behind parts (all_asked hands.0 ++ hands.1) cut hands.2 hands.3) hands.4 in
    stops-early has left old new all.0 hands.1 why all.1 all.2

-- there was no memory for the next one
pub so-memory : (has left : Framing) (rest : List ℕ) (old mid : World) → HandedSoFar has.most has.rest rest old mid → HandsInAll has left old mid (Err end.Memory)
so-memory has left rest old mid so =
    let all = stops-then has.most has.rest rest old mid mid [] [] end.Memory so (first-none has.most rest) (stops-memory mid) in
    (all.0, [], all.1, all.2)

-- ---- reading on

pub read-none : (has : Framing) (from : Input) (w : World) → ReadSoFar has from from has w w
read-none has from w = record {
  read = [];
  took = Took-none from;
  still = refl;
  most = refl;
  going = let e : has.rest ++ [] ≡ has.rest = append-nil has.rest in rw e (so-none has.most has.rest w);
}

-- messages after others
so-then : (most : ℕ) (bytes rest left : List ℕ) (old mid new : World) → HandedSoFar most bytes rest old mid → HandedSoFar most rest left mid new → HandedSoFar most bytes left old new
so-then most bytes rest left old mid new p q = record {
  handled = p.handled ++ q.handled;
  messages = p.messages ++ q.messages;
  cut = cut_then most bytes rest left p.messages q.messages p.cut q.cut;
  are =
      rw (filter-append (λ (x : Parts). x.kind == 1) p.messages q.messages, requests-append p.handled q.handled)
      (are-append (calls_in p.messages) (requests_of (all_asked p.handled)) (calls_in q.messages) (requests_of (all_asked q.handled)) p.are q.are);
  seen = p.seen ++ q.seen;
  recorded = records-more (place_of old) (place_of mid) (place_of new) p.seen q.seen p.recorded q.recorded;
  handed = handed-more old mid new p.seen q.seen p.handled q.handled [] [] p.recorded.same.conn p.handed q.handed;
}

-- the same, and no further message is complete
pub record ReadThrough (has : Framing) (from now : Input) (left : Framing) (old new : World) : Type 0 where
  pub so_far : ReadSoFar has from now left old new
  pub stream : Stream has.most (has.rest ++ so_far.read) so_far.going.messages left.rest

pub read-through : (has : Framing) (from now : Input) (left more : Framing) (old mid new : World) → ReadSoFar has from now left old mid → more.most ≡ left.most
    → (going : HandedSoFar left.most left.rest more.rest mid new) → Stream left.most left.rest going.messages more.rest → ReadThrough has from now more old new
unfolding so-then
read-through has from now left more old mid new so most going stream =
    let g : HandedSoFar has.most left.rest more.rest mid new = record {
      handled = going.handled;
      messages = going.messages;
      cut = rw (sym so.most) going.cut;
      are = going.are;
      seen = going.seen;
      recorded = going.recorded;
      handed = going.handed;
    } in
    record {
      so_far = record {
        read = so.read;
        took = so.took;
        still = so.still;
        most = most ∙ so.most;
        going = so-then has.most (has.rest ++ so.read) left.rest more.rest old mid new so.going g;
      };
      stream = stream_then has.most (has.rest ++ so.read) left.rest more.rest so.going.messages going.messages so.going.cut (rw (sym so.most) stream);
    }

-- more bytes were read
pub read-more : (has : Framing) (from now later : Input) (left fed : Framing) (old new : World) → ReadThrough has from now left old new → FeedsMore left fed now later (Ok tt)
    → ReadSoFar has from later fed old new
read-more has from now later left fed old new so more =
    let was = so.so_far in
    let bytes : has.rest ++ (was.read ++ more.0) ≡ (has.rest ++ was.read) ++ more.0 = sym (append_assoc has.rest was.read more.0) in
    record {
      read = was.read ++ more.0;
      took = Took-trans from now later was.read more.0 was.took more.1;
      still = more.4 ∙ was.still;
      most = more.3 ∙ was.most;
      going = rw (bytes, more.2) (record {
        handled = was.going.handled;
        messages = was.going.messages;
        cut = cut_more has.most (has.rest ++ was.read) more.0 left.rest was.going.messages was.going.cut;
        are = was.going.are;
        seen = was.going.seen;
        recorded = was.going.recorded;
        handed = was.going.handed;
      });
    }

-- ---- the ends

-- no request was refused
unrefused : (handled : List Handled) → requests_of (all_asked handled ++ []) ≡ requests_of (all_asked handled)
unrefused handled = ap requests_of (append-nil (all_asked handled))

-- all complete requests were handed in
all-read : (has : Framing) (from now : Input) (left : Framing) (old new : World) → has.most ≡ most_bytes → (so : ReadThrough has from now left old new)
    → AllRequests most_bytes (has.rest ++ so.so_far.read) (requests_of (all_asked so.so_far.going.handled ++ [])) left.rest
all-read has from now left old new most so =
    rw (unrefused so.so_far.going.handled) (subst (λ m. AllRequests m (has.rest ++ so.so_far.read) (requests_of (all_asked so.so_far.going.handled)) left.rest) most
    (record { messages = so.so_far.going.messages; stream = so.stream; are = so.so_far.going.are }))

-- the reader stopped
stops-end : (has : Framing) (from now : Input) (left : Framing) (old mid new : World) (more : List Handled) (refused : List TimedRequest) (why : End) → has.most ≡ most_bytes
    → ReadSoFar has from now left old mid → FirstRequests left.most left.rest (requests_of (all_asked more ++ refused)) → StopsAt mid new more refused why → ReadsOn has from now old new why
stops-end has from now left old mid new more refused why most so first stops =
    let all = stops-then has.most (has.rest ++ so.read) left.rest old mid new more refused why so.going (rw (sym so.most) first) stops in
    let these : FirstRequests most_bytes (has.rest ++ so.read) (requests_of (all_asked all.0 ++ refused)) =
    subst (λ m. FirstRequests m (has.rest ++ so.read) (requests_of (all_asked all.0 ++ refused))) most all.1 in
    record {
      read = so.read;
      took = so.took;
      seen = all.2.seen;
      recorded = all.2.recorded;
      handled = all.0;
      refused = refused;
      late = all.2.late;
      handed = all.2.handed;
      refusal = all.2.refusal;
      cause =
          subst (λ how. ReadFor how (has.rest ++ so.read) (requests_of (all_asked all.0 ++ refused)) from now) (sym all.2.is)
          (pass (has.rest ++ so.read) (requests_of (all_asked all.0 ++ refused)) from now all.2.refusing (these, so.still));
    }
  where
    pass : (bytes : List ℕ) (requests : List Request) (from to : Input) (refusing : Refused) → FirstRequests most_bytes bytes requests × IsStill from to
        → ReadFor (end_for refusing) bytes requests from to
    pass bytes requests from to refusal.EventsSpent is = is
    pass bytes requests from to refusal.Gone is = is
    pass bytes requests from to refusal.OutOfMemory is = is

-- handing in the complete messages ended the whole
pub hands-end : (has : Framing) (from now : Input) (left more : Framing) (old mid new : World) (why : End) → has.most ≡ most_bytes → ReadSoFar has from now left old mid
    → HandsInAll left more mid new (Err why) → ReadsOn has from now old new why
unfolding read-through
hands-end has from now left more old mid new (end.Violation cause) most so hands =
    let so_far : ReadSoFar has from now (record more { most = left.most }) old new =
    (read-through has from now left (record more { most = left.most }) old mid new so refl hands.0 hands.1).so_far in
    let through : ReadThrough has from now (record more { most = left.most }) old new =
    read-through has from now left (record more { most = left.most }) old mid new so refl hands.0 hands.1 in
    record {
      read = so.read;
      took = so.took;
      seen = through.so_far.going.seen;
      recorded = through.so_far.going.recorded;
      handled = through.so_far.going.handled;
      refused = [];
      late = [];
      handed = through.so_far.going.handed;
      refusal = (refl, refl);
      cause =
          ((more.rest, all-read has from now (record more { most = left.most }) old new most through, shown cause now more.rest (subst (λ m. Breaks m more.rest cause) (so.most ∙ most) hands.2)), so.still);
    }
hands-end has from now left more old mid new end.EventsSpent most so hands = stops-end has from now left old mid new hands.0 hands.1 end.EventsSpent most so hands.2 hands.3
hands-end has from now left more old mid new end.OtherEnded most so hands = stops-end has from now left old mid new hands.0 hands.1 end.OtherEnded most so hands.2 hands.3
hands-end has from now left more old mid new end.Memory most so hands = stops-end has from now left old mid new hands.0 hands.1 end.Memory most so hands.2 hands.3
hands-end has from now left more old mid new end.Done most so hands = stops-end has from now left old mid new hands.0 hands.1 end.Done most so hands.2 hands.3
hands-end has from now left more old mid new (end.AuthRefused why) most so hands = stops-end has from now left old mid new hands.0 hands.1 (end.AuthRefused why) most so hands.2 hands.3
hands-end has from now left more old mid new end.ReadFault most so hands = stops-end has from now left old mid new hands.0 hands.1 end.ReadFault most so hands.2 hands.3
hands-end has from now left more old mid new end.WriteFault most so hands = stops-end has from now left old mid new hands.0 hands.1 end.WriteFault most so hands.2 hands.3
hands-end has from now left more old mid new end.Overrun most so hands = stops-end has from now left old mid new hands.0 hands.1 end.Overrun most so hands.2 hands.3

-- no more bytes were read
pub feeds-no-more : (has : Framing) (from now later : Input) (left fed : Framing) (old new : World) (why : End) → has.most ≡ most_bytes → ReadThrough has from now left old new
    → BreaksNone most_bytes left.rest → FeedsMore left fed now later (Err why) → ReadsOn has from later old new why
feeds-no-more has from now later left fed old new end.ReadFault most so quiet feeds =
    let was = so.so_far in record {
      read = was.read;
      took = stays from now later was.read was.took feeds.0;
      seen = was.going.seen;
      recorded = was.going.recorded;
      handled = was.going.handled;
      refused = [];
      late = [];
      handed = was.going.handed;
      refusal = (refl, refl);
      cause = ((left.rest, all-read has from now left old new most so, quiet), rose-later from.faults now.faults later.faults was.took.later feeds.1);
    }
feeds-no-more has from now later left fed old new end.Done most so quiet feeds =
    let was = so.so_far in record {
      read = was.read;
      took = stays from now later was.read was.took feeds.0;
      seen = was.going.seen;
      recorded = was.going.recorded;
      handled = was.going.handled;
      refused = [];
      late = [];
      handed = was.going.handed;
      refusal = (refl, refl);
      cause = (rw (sym feeds.2) (all-read has from now left old new most so), feeds.1, feeds.3 ∙ was.still);
    }
feeds-no-more has from now later left fed old new (end.Violation violation.EndInside) most so quiet feeds =
    let was = so.so_far in record {
      read = was.read;
      took = stays from now later was.read was.took feeds.0;
      seen = was.going.seen;
      recorded = was.going.recorded;
      handled = was.going.handled;
      refused = [];
      late = [];
      handed = was.going.handed;
      refusal = (refl, refl);
      cause = ((left.rest, all-read has from now left old new most so, (feeds.2, feeds.1, quiet)), feeds.3 ∙ was.still);
    }
feeds-no-more has from now later left fed old new end.Memory most so quiet feeds =
    let was = so.so_far in
    let bytes : has.rest ++ (was.read ++ feeds.0) ≡ (has.rest ++ was.read) ++ feeds.0 = sym (append_assoc has.rest was.read feeds.0) in
    let first : FirstRequests has.most (has.rest ++ (was.read ++ feeds.0)) (requests_of (all_asked was.going.handled ++ [])) =
    rw (bytes, unrefused was.going.handled) (record {
      messages = was.going.messages;
      rest = left.rest ++ feeds.0;
      cut = cut_more has.most (has.rest ++ was.read) feeds.0 left.rest was.going.messages was.going.cut;
      more = [];
      are = rw (append-nil (requests_of (all_asked was.going.handled))) was.going.are;
    }) in
    record {
      read = was.read ++ feeds.0;
      took = Took-trans from now later was.read feeds.0 was.took feeds.1;
      seen = was.going.seen;
      recorded = was.going.recorded;
      handled = was.going.handled;
      refused = [];
      late = [];
      handed = was.going.handed;
      refusal = inl (refl, refl);
      cause = (subst (λ m. FirstRequests m (has.rest ++ (was.read ++ feeds.0)) (requests_of (all_asked was.going.handled ++ []))) most first, feeds.2 ∙ was.still);
    }
feeds-no-more has from now later left fed old new end.EventsSpent most so quiet feeds = absurd feeds
feeds-no-more has from now later left fed old new end.OtherEnded most so quiet feeds = absurd feeds
feeds-no-more has from now later left fed old new end.WriteFault most so quiet feeds = absurd feeds
feeds-no-more has from now later left fed old new end.Overrun most so quiet feeds = absurd feeds
feeds-no-more has from now later left fed old new (end.AuthRefused why) most so quiet feeds = absurd feeds
feeds-no-more has from now later left fed old new (end.Violation cause) most so quiet feeds = absurd feeds

-- there was no memory to begin
pub reads-never : (has : Framing) (from : Input) (w : World) → has.most ≡ most_bytes → ReadsOn has from from w w end.Memory
reads-never has from w most = record {
  read = [];
  took = Took-none from;
  seen = [];
  recorded = records-none (place_of w);
  handled = [];
  refused = [];
  late = [];
  handed = handed-none w;
  refusal = inl (refl, refl);
  cause = (first-none most_bytes (has.rest ++ []), refl);
}

-- ---- the desk leaves

-- the connection isn't there, or is leaving already
abbrev pub IsOver : Told → ConnId → Type 0
IsOver told conn = IsMissing conn told.state ⊎ ((waits : Bool) × (overrun : Bool) × IsToldOf conn told.state waits overrun true)

-- what was recorded then
leaves-saw : (mid new : Place) → Leaves mid new → (last : List Seen) × Records mid new last × HasLeft mid.told.conn new.told.state last
leaves-saw mid new (inl so) =
    let saw = saw-extends mid new (event.Leave mid.told.conn) output.Left so in
    (saw.0, saw.1, inl saw.2)
leaves-saw mid new (inr so) =
    let saw = saw-looks mid new so.0 in
    (saw.0, saw.1, inr (saw.2, subst (λ c. IsOver new.told c) so.0.same.conn so.1))

refused-seen : (why : End) (old new : Place) (seen : List Seen) (refused : List TimedRequest) (late : List ℕ) → Records old new seen → RefusedFor why new.told refused late
    → RefusedFor why (told_after old.told seen) refused late
refused-seen end.EventsSpent old new seen refused late so is = (refusal-seen refusal.EventsSpent old new seen so is.0, is.1)
refused-seen end.OtherEnded old new seen refused late so is = (refusal-seen refusal.Gone old new seen so is.0, is.1)
refused-seen end.Memory old new seen refused late so is =
    elim is [
      | inl none ↦ inl none
      | inr one ↦ inr (refusal-seen refusal.OutOfMemory old new seen so one.0, one.1)
    ]
refused-seen end.Done old new seen refused late so is = is
refused-seen (end.Violation cause) old new seen refused late so is = is
refused-seen (end.AuthRefused cause) old new seen refused late so is = is
refused-seen end.ReadFault old new seen refused late so is = is
refused-seen end.WriteFault old new seen refused late so is = is
refused-seen end.Overrun old new seen refused late so is = is

pub reads-leave : (has : Framing) (from to : Input) (old mid : World) (new : Place) (how : End) → ReadsOn has from to old mid how → Leaves (place_of mid) new
    → ReaderEnds has from to old (record { told = new.told; has_seen = new.has_seen; coming = mid.coming; salting = mid.salting }) how
reads-leave has from to old mid new how so leaves =
    let left = leaves-saw (place_of mid) new leaves in
    record {
      read = so.read;
      took = so.took;
      seen = so.seen;
      last = left.0;
      recorded = records-more (place_of old) (place_of mid) new so.seen left.0 so.recorded left.1;
      handled = so.handled;
      refused = so.refused;
      late = so.late;
      handed = record { own = so.handed.own; keyed = so.handed.keyed; moments = so.handed.moments; salts = so.handed.salts };
      left = subst (λ c. HasLeft c new.told.state left.0) so.recorded.same.conn left.2;
      refusal = refused-seen how (place_of old) (place_of mid) so.seen so.refused so.late so.recorded so.refusal;
      cause = so.cause;
    }
