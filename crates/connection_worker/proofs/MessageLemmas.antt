-- The calls among the messages of a framer, one after the other.
use Rattle.std.proofs.Common.{◌≡◌, inl, inr, ℕ, ◌+◌, ◌==◌, true, false, List, [], ◌∷◌, ◌++◌, length, Result, Ok, Err, refl, sym, ◌∙◌, ap, arith, subst, append_assoc, append-nil, length-append}
use Rattle.std.proofs.lemmas.Bool.Decides.{nat_tests}
use Rattle.std.proofs.lemmas.List.{map-append}
use Rattle.std.proofs.lemmas.List.Elements.{filter-append}
use Rattle.kr_base.specs.declared.ids.ConnId.{ConnId}
use Rattle.service_desk.specs.secret_calls.specs.declared.call.Request.{Request}
use Rattle.service_desk.specs.service_tables.specs.State.{State}
use Rattle.service_desk.specs.service_events.specs.declared.event.Event.{Event}
use Rattle.service_desk.specs.service_events.specs.Replay.{replay}
use Rattle.service_desk.specs.service_events.proofs.ReplayLemmas.{replay-append}
use Rattle.service_desk.specs.service_tables.specs.Connections.{waiting_for}
use Rattle.dbus_framing.specs.Framers.{Framing}
use Rattle.dbus_framing.specs.Messages.{Parts}
use Rattle.dbus_framing.specs.Streams.{Cut, Stream}
use Rattle.dbus_framing.proofs.Cuts.{cut_none, cut_then, stream_then}
use Rattle.connection_worker.specs.declared.ending.End.{End}
use Rattle.connection_worker.specs.declared.ending.End.TheVariants as end
use Rattle.connection_worker.specs.Arrivals.{calls_in, AreRequests, FirstRequests}
use Rattle.connection_worker.specs.Fitting.{FitTogether, HasFit}
use Rattle.connection_worker.specs.Stopping.{StopsAtWrite, StopsFor}
use Rattle.connection_worker.specs.Streams.{Output, Gave, GaveFront}
use Rattle.service_desk.specs.service_events.specs.Single.{AllFinished, AreFinished, TimedRequest, requests_of, taking, turns}
use Rattle.connection_worker.specs.Written.{given_by, spelled_behind, written_after}
use Rattle.service_desk.proofs.RecordLemmas.{own-state}
use Rattle.connection_worker.specs.Serving.{World, place_of, IsOwed, Recorded, EndsEarly}
use Rattle.connection_worker.specs.Answering.{IsOne, Answered, Broke, AnswersCall, AnswersMessage, ServedPrefix, AnswersEarly, AnswersAll}
use Rattle.connection_worker.proofs.AnswerLemmas.{due-idle}
use Rattle.connection_worker.proofs.FitLemmas.{fit-all, fit-behind, fit-first}
use Rattle.connection_worker.proofs.HandshakeLemmas.{rose-later}
use Rattle.connection_worker.proofs.RecordLemmas.{all-finished, finished-all, finished-more, recorded-none, recorded-more, turns-append, given_by-append}
use Rattle.connection_worker.proofs.SendingLemmas.{spelled_behind-append}
use Rattle.connection_worker.proofs.StreamLemmas.{Gave-later, Gave-none, Gave-trans, GaveFront-whole, GaveFront-behind}

-- ---- requests that were answered one after the other

-- what requests give, one after the other
pub given-more : (old mid : World) (asked more : List TimedRequest) → Recorded old mid asked [] []
    → given_by old.told.conn old.told.state (turns old.told.conn old.told.state (asked ++ more))
    ≡ given_by old.told.conn old.told.state (turns old.told.conn old.told.state asked) ++ given_by mid.told.conn mid.told.state (turns mid.told.conn mid.told.state more)
given-more old mid asked more so =
    let conn = old.told.conn in
    let first = turns conn old.told.state asked in
    ap (given_by conn old.told.state) (turns-append conn old.told.state asked more) ∙ given_by-append conn old.told.state first (turns conn (replay old.told.state first) more)
    ∙ ap (λ s. given_by conn old.told.state first ++ given_by conn s (turns conn s more)) (sym (own-state (place_of old) (place_of mid) first so.calls))
    ∙ ap (λ c. given_by conn old.told.state first ++ given_by c mid.told.state (turns c mid.told.state more)) (sym so.calls.same.conn)

-- requests of the same connection, in the state that others led to, have their keys as after those
pub here-by : (P : ConnId → State → Type 0) (old mid : World) (asked : List TimedRequest) → Recorded old mid asked [] [] → P mid.told.conn mid.told.state
    → P old.told.conn (replay old.told.state (turns old.told.conn old.told.state asked))
here-by P old mid asked so is =
    subst (λ s. P old.told.conn s) (own-state (place_of old) (place_of mid) (turns old.told.conn old.told.state asked) so.calls) (subst (λ c. P c mid.told.state) so.calls.same.conn is)

all-here : (old mid : World) (asked more : List TimedRequest) → Recorded old mid asked [] [] → AllFinished mid.told.conn mid.told.state more
    → AllFinished old.told.conn (replay old.told.state (turns old.told.conn old.told.state asked)) more
all-here old mid asked more so is = here-by (λ conn state. AllFinished conn state more) old mid asked so is

pub are-here : (old mid : World) (asked more : List TimedRequest) → Recorded old mid asked [] [] → AreFinished mid.told.conn mid.told.state more
    → AreFinished old.told.conn (replay old.told.state (turns old.told.conn old.told.state asked)) more
are-here old mid asked more so is = here-by (λ conn state. AreFinished conn state more) old mid asked so is

pub answered-none : (w : World) (serials : ℕ) (o : Output) → IsOwed w.told [] → Answered w w serials serials o o []
answered-none w serials o idle = record {
  recorded = recorded-none w;
  finished = tt;
  idle = idle;
  fit = tt;
  as_open = refl;
  wrote = λ taken are. (Gave-none o, omega (arith, are));
}

pub answered-more : (old mid new : World) (serials next behind : ℕ) (from o to : Output) (asked more : List TimedRequest)
    → Answered old mid serials next from o asked → Answered mid new next behind o to more → Answered old new serials behind from to (asked ++ more)
answered-more old mid new serials next behind from o to asked more p q =
    let one = given_by old.told.conn old.told.state (turns old.told.conn old.told.state asked) in
    let two = given_by mid.told.conn mid.told.state (turns mid.told.conn mid.told.state more) in
    let e = given-more old mid asked more p.recorded in
    record {
      recorded = recorded-more old mid new asked more [] [] p.recorded q.recorded;
      finished = finished-all old.told.conn old.told.state asked more p.finished (all-here old mid asked more p.recorded q.finished);
      idle = q.idle;
      fit = fit-all old.told.conn old.told.state asked more p.fit (here-by (λ conn state. FitTogether conn state more) old mid asked p.recorded q.fit);
      as_open = q.as_open ∙ p.as_open;
      wrote = λ taken are.
          let first = p.wrote taken are in
          let second = q.wrote (taken + length one) first.1 in (
            rw (e, spelled_behind-append taken one two) (Gave-trans from o to (spelled_behind taken one) (spelled_behind (taken + length one) two) first.0 second.0),
            rw (e, length-append one two) (omega (arith, second.1)),
          );
    }

-- an early end after what was written
pub ends-behind : (why : End) (count : ℕ) (from o to : Output) (x y : List ℕ) → Gave from o x → EndsEarly why count o to y → EndsEarly why count from to (x ++ y)
ends-behind end.EventsSpent count from o to x y gave ends = (ends.0, Gave-trans from o to x y gave ends.1)
ends-behind end.WriteFault count from o to x y gave ends = (rose-later from.faults o.faults to.faults (Gave-later from o x gave) ends.0, GaveFront-behind from o to x y gave ends.1)
ends-behind end.Memory count from o to x y gave ends = GaveFront-behind from o to x y gave ends
ends-behind end.Overrun count from o to x y gave ends = Gave-trans from o to x y gave ends
ends-behind _ count from o to x y gave ends = absurd ends

-- events that stop at a write do so after others, of which all was written
stops-write : (conn : ConnId) (taken : ℕ) (state : State) (first second : List Event) (from o to : Output) → Gave from o (written_after conn taken state first)
    → StopsAtWrite o to conn (taken + length (given_by conn state first)) (replay state first) second → StopsAtWrite from to conn taken state (first ++ second)
stops-write conn taken state first second from o to gave stops =
    let next = replay state first in
    let one = given_by conn state first in
    let two = given_by conn next stops.before in
    let here : replay state (first ++ stops.before) ≡ replay next stops.before = replay-append state first stops.before in
    let both : given_by conn state (first ++ stops.before) ≡ one ++ two = given_by-append conn state first stops.before in
    let number : length (given_by conn state (first ++ stops.before)) ≡ length one + length two = ap length both ∙ length-append one two in
    let sum : (taken + length one) + length two ≡ taken + length (given_by conn state (first ++ stops.before)) = omega (arith, number) in
    record {
      before = first ++ stops.before;
      parted =
          ap (λ l. first ++ l) stops.parted ∙ sym (append_assoc first stops.before (taking conn (replay next stops.before)))
          ∙ ap (λ s. (first ++ stops.before) ++ taking conn s) (sym here);
      amid = stops.amid;
      whole =
          subst (λ outs. Gave from stops.amid (spelled_behind taken outs)) (sym both)
          (rw (spelled_behind-append taken one two) (Gave-trans from o stops.amid (spelled_behind taken one) (spelled_behind (taken + length one) two) gave stops.whole));
      front =
          subst (λ (s : State). GaveFront stops.amid to (spelled_behind (taken + length (given_by conn state (first ++ stops.before))) (waiting_for conn s.connections.rows))) (sym here)
          (subst (λ n. GaveFront stops.amid to (spelled_behind n (waiting_for conn (replay next stops.before).connections.rows))) sum stops.front);
    }

-- and so do the events of an early end
stops-behind : (why : End) (conn : ConnId) (taken : ℕ) (state : State) (first second : List Event) (from o to : Output) → Gave from o (written_after conn taken state first)
    → StopsFor why o to conn (taken + length (given_by conn state first)) (replay state first) second → StopsFor why from to conn taken state (first ++ second)
stops-behind end.WriteFault conn taken state first second from o to gave stops = stops-write conn taken state first second from o to gave stops
stops-behind end.Memory conn taken state first second from o to gave (inl all) =
    let one = given_by conn state first in
    let two = given_by conn (replay state first) second in
    inl (subst (λ outs. Gave from to (spelled_behind taken outs)) (sym (given_by-append conn state first second))
    (rw (spelled_behind-append taken one two) (Gave-trans from o to (spelled_behind taken one) (spelled_behind (taken + length one) two) gave all)))
stops-behind end.Memory conn taken state first second from o to gave (inr stops) = inr (stops-write conn taken state first second from o to gave stops)
stops-behind _ conn taken state first second from o to gave stops = tt

-- those of more requests do so after those of others
pub stops-more : (why : End) (old mid : World) (asked more : List TimedRequest) (taken : ℕ) (from o to : Output) → Recorded old mid asked [] []
    → Gave from o (written_after old.told.conn taken old.told.state (turns old.told.conn old.told.state asked))
    → StopsFor why o to mid.told.conn (taken + length (given_by old.told.conn old.told.state (turns old.told.conn old.told.state asked))) mid.told.state (turns mid.told.conn mid.told.state more)
    → StopsFor why from to old.told.conn taken old.told.state (turns old.told.conn old.told.state (asked ++ more))
stops-more why old mid asked more taken from o to so gave stops =
    let conn = old.told.conn in
    let state = old.told.state in
    let first = turns conn state asked in
    subst (λ events. StopsFor why from to conn taken state events) (sym (turns-append conn state asked more))
    (stops-behind why conn taken state first (turns conn (replay state first) more) from o to gave
    (here-by (λ c s. StopsFor why o to c (taken + length (given_by conn state first)) s (turns c s more)) old mid asked so stops))

unfoldable pub broke-more : (old mid new : World) (serials next : ℕ) (from o to : Output) (asked more : List TimedRequest) (why : End)
    → Answered old mid serials next from o asked → Broke mid new next o to more why → Broke old new serials from to (asked ++ more) why
broke-more old mid new serials next from o to asked more why p q =
    let one = given_by old.told.conn old.told.state (turns old.told.conn old.told.state asked) in
    let two = given_by mid.told.conn mid.told.state (turns mid.told.conn mid.told.state more) in
    let e = given-more old mid asked more p.recorded in
    record {
      early = q.early;
      refused = q.refused;
      late = q.late;
      few = q.few;
      recorded = recorded-more old mid new asked more q.refused q.late p.recorded q.recorded;
      finished =
          let e : (asked ++ more) ++ q.refused ≡ asked ++ (more ++ q.refused) = append_assoc asked more q.refused in
          rw e (finished-more old.told.conn old.told.state asked (more ++ q.refused) p.finished (are-here old mid asked (more ++ q.refused) p.recorded q.finished));
      idle = q.idle;
      fit = fit-behind why old.told.conn old.told.state asked more p.fit (here-by (λ conn state. HasFit why conn state more) old mid asked p.recorded q.fit);
      wrote = λ taken are.
          let first = p.wrote taken are in
          rw (e, spelled_behind-append taken one two)
          (ends-behind why new.told.count from o to (spelled_behind taken one) (spelled_behind (taken + length one) two) first.0 (q.wrote (taken + length one) first.1));
      stops = λ taken are.
          let first = p.wrote taken are in
          stops-more why old mid asked more taken from o to p.recorded first.0 (q.stops (taken + length one) first.1);
    }

pub broke-memory : (old new : World) (serials behind : ℕ) (from to : Output) (asked : List TimedRequest) → Answered old new serials behind from to asked → Broke old new serials from to asked end.Memory
broke-memory old new serials behind from to asked p = record {
  early = tt;
  refused = [];
  late = [];
  few = omega arith;
  recorded = p.recorded;
  finished = let e : asked ++ [] ≡ asked = append-nil asked in rw e (all-finished old.told.conn old.told.state asked p.finished);
  idle = due-idle new.told false p.idle;
  fit = fit-first old.told.conn old.told.state asked p.fit;
  wrote = λ taken are. GaveFront-whole from to (written_after old.told.conn taken old.told.state (turns old.told.conn old.told.state asked)) (p.wrote taken are).0;
  stops = λ taken are. inl (p.wrote taken are).0;
}

-- ---- messages

pub are-append : (one : List Parts) (asked : List Request) (two : List Parts) (more : List Request) → AreRequests one asked → AreRequests two more → AreRequests (one ++ two) (asked ++ more)
are-append [] [] two more are then = then
are-append (parts ∷ one) (request ∷ asked) two more are then = (are.0, are-append one asked two more are.1 then)
are-append [] (request ∷ asked) two more are then = absurd are
are-append (parts ∷ one) [] two more are then = absurd are

-- ---- one message

-- it isn't a call
pub answers-other : (parts : Parts) (w : World) (serials : ℕ) (o : Output) → IsOwed w.told [] → (parts.kind == 1) ≡ false → AnswersMessage parts w w serials serials o o (Ok tt)
answers-other parts w serials o idle isnt = ([], rw isnt tt, answered-none w serials o idle)

-- it is
pub answers-call : (parts : Parts) (old new : World) (serials behind : ℕ) (from to : Output) (result : Result Unit End) → (parts.kind == 1) ≡ true
    → AnswersCall parts old new serials behind from to result → AnswersMessage parts old new serials behind from to result
answers-call parts old new serials behind from to (Ok done) is answers = (answers.0 ∷ [], rw is (answers.1, tt), answers.2)
answers-call parts old new serials behind from to (Err why) is answers = (answers.0, answers.1, is, answers.2)

pub going-none : (most : ℕ) (bytes : List ℕ) (w : World) (serials : ℕ) (o : Output) → IsOwed w.told [] → ServedPrefix most bytes bytes w w serials serials o o
going-none most bytes w serials o idle = record { asked = []; messages = []; cut = cut_none most bytes; are = tt; answered = answered-none w serials o idle }

-- one more message was served
pub going-on : (most : ℕ) (bytes rest left : List ℕ) (old mid new : World) (serials next behind : ℕ) (from o to : Output) (parts : Parts)
    → ServedPrefix most bytes rest old mid serials next from o → Cut most rest (parts ∷ []) left → AnswersMessage parts mid new next behind o to (Ok tt)
    → ServedPrefix most bytes left old new serials behind from to
going-on most bytes rest left old mid new serials next behind from o to parts so cut answers = record {
  asked = so.asked ++ answers.0;
  messages = so.messages ++ parts ∷ [];
  cut = cut_then most bytes rest left so.messages (parts ∷ []) so.cut cut;
  are =
      rw (filter-append (λ (p : Parts). p.kind == 1) so.messages (parts ∷ []), map-append (λ (b : TimedRequest). b.request) so.asked answers.0)
      (are-append (calls_in so.messages) (requests_of so.asked) (calls_in (parts ∷ [])) (requests_of answers.0) so.are answers.1);
  answered = answered-more old mid new serials next behind from o to so.asked answers.0 so.answered answers.2;
}

-- the requests so far are the first of the bytes
pub first-so : (most : ℕ) (bytes rest : List ℕ) (old mid : World) (serials next : ℕ) (from o : Output) → (so : ServedPrefix most bytes rest old mid serials next from o) → FirstRequests most bytes (requests_of so.asked)
first-so most bytes rest old mid serials next from o so = record {
  messages = so.messages;
  rest = rest;
  cut = so.cut;
  more = [];
  are = rw (append-nil (requests_of so.asked)) so.are;
}

-- the request of one more call is among the first of the bytes
pub first-call : (most : ℕ) (bytes rest left : List ℕ) (old mid : World) (serials next : ℕ) (from o : Output) (parts : Parts) (more : List TimedRequest)
    → (so : ServedPrefix most bytes rest old mid serials next from o) → Cut most rest (parts ∷ []) left → (parts.kind == 1) ≡ true → IsOne parts more
    → FirstRequests most bytes (requests_of (so.asked ++ more))
first-call most bytes rest left old mid serials next from o parts [] so cut is one =
    let e : so.asked ++ [] ≡ so.asked = append-nil so.asked in rw e (first-so most bytes rest old mid serials next from o so)
first-call most bytes rest left old mid serials next from o parts (a ∷ []) so cut is one = record {
  messages = so.messages ++ parts ∷ [];
  rest = left;
  cut = cut_then most bytes rest left so.messages (parts ∷ []) so.cut cut;
  more = [];
  are =
      rw (append-nil (requests_of (so.asked ++ a ∷ [])), filter-append (λ (p : Parts). p.kind == 1) so.messages (parts ∷ []), map-append (λ (b : TimedRequest). b.request) so.asked (a ∷ []))
      (are-append (calls_in so.messages) (requests_of so.asked) (calls_in (parts ∷ [])) (a.request ∷ []) so.are (rw is (one, tt)));
}
first-call most bytes rest left old mid serials next from o parts (a ∷ b ∷ more) so cut is one = absurd one

-- the first requests are so too without the last of them
pub first-fewer : (most : ℕ) (bytes : List ℕ) (asked last : List TimedRequest) → FirstRequests most bytes (requests_of (asked ++ last)) → FirstRequests most bytes (requests_of asked)
first-fewer most bytes asked last first = record {
  messages = first.messages;
  rest = first.rest;
  cut = first.cut;
  more = requests_of last ++ first.more;
  are =
      let e : requests_of (asked ++ last) ++ first.more ≡ requests_of asked ++ (requests_of last ++ first.more) =
      ap (λ l. l ++ first.more) (map-append (λ (b : TimedRequest). b.request) asked last) ∙ append_assoc (requests_of asked) (requests_of last) first.more in
      subst (λ l. AreRequests (calls_in first.messages) l) e first.are;
}

-- memory ran out before a message
pub memory-early : (has : Framing) (rest : List ℕ) (old mid : World) (serials next : ℕ) (from o : Output) → ServedPrefix has.most has.rest rest old mid serials next from o
    → AnswersEarly has old mid serials from o end.Memory
unfolding broke-memory
memory-early has rest old mid serials next from o so =
    let e : so.asked ++ [] ≡ so.asked = append-nil so.asked in
    (so.asked, broke-memory old mid serials next from o so.asked so.answered, rw e (first-so has.most has.rest rest old mid serials next from o so))

-- the stream of all the bytes
pub all-stream : (most : ℕ) (bytes rest left : List ℕ) (messages : List Parts) → Cut most bytes messages rest → Stream most rest [] left → Stream most bytes messages left
all-stream most bytes rest left messages cut stream =
    let e : messages ++ [] ≡ messages = append-nil messages in
    rw (sym e) (stream_then most bytes rest left messages [] cut stream)

-- no further message is complete
pub going-last : (most : ℕ) (bytes rest left : List ℕ) (old mid : World) (serials next : ℕ) (from o : Output) → (so : ServedPrefix most bytes rest old mid serials next from o)
    → Stream most rest [] left → (going : ServedPrefix most bytes left old mid serials next from o) × Stream most bytes going.messages left
going-last most bytes rest left old mid serials next from o so stream =
    let whole = all-stream most bytes rest left so.messages so.cut stream in
    (record { asked = so.asked; messages = so.messages; cut = whole.cut; are = so.are; answered = so.answered }, whole)

-- a message at which the serving ended early
pub broke-message : (most : ℕ) (bytes rest left : List ℕ) (old mid new : World) (serials next behind : ℕ) (from o to : Output) (parts : Parts) (why : End) (has : Framing)
    → has.most ≡ most → has.rest ≡ bytes → ServedPrefix most bytes rest old mid serials next from o → Cut most rest (parts ∷ []) left → AnswersMessage parts mid new next behind o to (Err why)
    → AnswersEarly has old new serials from to why
unfolding broke-more
broke-message most bytes rest left old mid new serials next behind from o to parts why has is_most is_bytes so cut answers =
    let last = answers.1.refused in (
      so.asked ++ answers.0,
      broke-more old mid new serials next from o to so.asked answers.0 why so.answered answers.1,
      rw (is_most, is_bytes, append_assoc so.asked answers.0 last)
          (first-call most bytes rest left old mid serials next from o parts (answers.0 ++ last) so cut answers.2 answers.3),
    )

-- an early end is one of these
pub early : (has remaining : Framing) (old new : World) (serials behind : ℕ) (from to : Output) (why : End) → AnswersEarly has old new serials from to why
    → AnswersAll has remaining old new serials behind from to (Err why)
early has remaining old new serials behind from to end.EventsSpent so = so
early has remaining old new serials behind from to end.WriteFault so = so
early has remaining old new serials behind from to end.Memory so = so
early has remaining old new serials behind from to end.Overrun so = so
early has remaining old new serials behind from to (end.Violation cause) so = absurd so.1.early
early has remaining old new serials behind from to _ so = so

-- a number that is 1, and one that isn't
pub is-one : (n : ℕ) → n ≡ 1 → (n == 1) ≡ true
is-one n is = rw is refl

pub is-not : (n : ℕ) → (n ≡ 1 → ⊥) → (n == 1) ≡ false
is-not n isnt = grind (arith, nat_tests, isnt)
