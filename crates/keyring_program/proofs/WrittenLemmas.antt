-- What is written is determined by what was read.
use Rattle.std.proofs.Common.{◌≡◌, ℕ, ◌+◌, Bool, true, false, cond, List, [], ◌∷◌, ◌++◌, map, Option, Some, None, refl, sym, ◌∙◌, ap, subst, append_assoc, append-nil}
use Rattle.std.specs.List.{concat}
use Rattle.std.specs.Option.{is_some}
use Rattle.lone_desk.specs.secret_calls.specs.declared.call.Request.{Request}
use Rattle.lone_desk.specs.secret_calls.specs.declared.work.Work.{Work}
use Rattle.lone_desk.specs.secret_calls.proofs.SerialLemmas.{one_serial}
use Rattle.dbus_auth.specs.Handshake.{Run}
use Rattle.dbus_framing.specs.Messages.{Parts}
use Rattle.dbus_framing.specs.Streams.{Stream}
use Rattle.dbus_framing.proofs.Cuts.{one_stream}
use Rattle.service_hub.specs.call_wire.specs.CallOf.{CallOf}
use Rattle.lone_desk.specs.service_tables.specs.State.{State}
use Rattle.lone_desk.specs.service_events.specs.declared.event.Derivation.{Derivation}
use Rattle.lone_desk.specs.service_events.specs.declared.event.Event.{Event}
use Rattle.lone_desk.specs.service_events.specs.declared.event.Event.TheVariants as event
use Rattle.lone_desk.specs.service_events.specs.declared.event.Recorded.{Recorded}
use Rattle.lone_desk.specs.service_tables.specs.Opened.{Contents, opened_state}
use Rattle.lone_desk.specs.service_tables.specs.Sound.{AreSoundContents}
use Rattle.lone_desk.specs.service_events.specs.Fates.{IsCertain}
use Rattle.lone_desk.specs.service_events.specs.Run.{Ran, ran}
use Rattle.lone_desk.specs.service_events.specs.Step.{step, AreAlike, Fits, brought_with, plan_of, served, work_of}
use Rattle.lone_desk.specs.service_events.specs.Replay.{replay, Legal}
use Rattle.lone_desk.specs.service_events.proofs.AlikeLemmas.{moment-alike, step_alike}
use Rattle.lone_desk.specs.service_events.proofs.CertainLemmas.{step_certain}
use Rattle.lone_desk.specs.service_events.proofs.FateLemmas.{fates_alike, key_fates}
use Rattle.lone_desk.specs.service_events.proofs.ReplayLemmas.{replay-append}
use Rattle.service_hub.specs.connection_worker.specs.Arrivals.{calls_in, AreRequests}
use Rattle.service_hub.specs.connection_worker.specs.Handshakes.{most_bytes}
use Rattle.service_hub.specs.connection_worker.specs.Salts.{salt_of}
use Rattle.service_hub.specs.connection_worker.specs.Causes.{AllServed}
use Rattle.lone_desk.specs.service_events.specs.Single.{AllFaultless, AllFinished, IsKeyFaultless, TimedKey, TimedRequest, arrival, derivation, finishing, is_owed, recorded_of, requests_of, taking, turn, turns, work_for}
use Rattle.service_hub.specs.connection_worker.specs.Written.{given, given_by, spelled_behind}
use Rattle.keyring_program.specs.Events.{the_connection, joined, events_of, text_of, AreGivenFrom, HasSameKeyFates, HasSameMoment, HaveSalts, HaveSameMoments, HaveSameFates}

-- each message is one request
abbrev pub OneCall : Type 0
OneCall = (parts : Parts) (one other : Request) → CallOf parts one → CallOf parts other → one.call ≡ other.call

-- the requests of two lists are alike, each with the one at its place, and their keys came at the same moments
abbrev AreAllAlike : List TimedRequest → List TimedRequest → Type 0
AreAllAlike [] [] = Unit {0}
AreAllAlike (one ∷ ones) (other ∷ others) =
    AreAlike (recorded_of the_connection one).arrival (recorded_of the_connection other).arrival × HasSameMoment one.key other.key × AreAllAlike ones others
AreAllAlike _ _ = ⊥

-- the salts of requests
abbrev salts_of : List TimedRequest → List (List ℕ)
salts_of asked = map (λ (a : TimedRequest). a.salt) asked

alike-of : OneCall → (give : ℕ → List ℕ) (calls : List Parts) (one other : List TimedRequest) (place : ℕ) → AreRequests calls (requests_of one) → AreRequests calls (requests_of other)
    → AreGivenFrom place give (salts_of one) → AreGivenFrom place give (salts_of other) → HaveSameMoments one other → AreAllAlike one other
alike-of same give [] [] [] place p q salts others moments = tt
alike-of same give [] [] (b ∷ other) place p q salts others moments = absurd q
alike-of same give [] (a ∷ one) other place p q salts others moments = absurd p
alike-of same give (parts ∷ calls) [] other place p q salts others moments = absurd p
alike-of same give (parts ∷ calls) (a ∷ one) [] place p q salts others moments = absurd q
alike-of same give (parts ∷ calls) (a ∷ one) (b ∷ other) place p q salts others moments = (
  record {
    conn = refl;
    call = same parts a.request b.request p.0 q.0;
    serial = one_serial a.request.serial b.request.serial (p.0.serial ∙ sym q.0.serial);
    wants_reply = p.0.wants_reply ∙ sym q.0.wants_reply;
    moment = moments.0;
    salt = λ takes. salts.0 ∙ sym others.0;
  },
  moments.1,
  alike-of same give calls one other (place + 1) p.1 q.1 salts.1 others.1 moments.2,
)

given_by-append : (state : State) (events more : List Event) → given_by the_connection state (events ++ more) ≡ given_by the_connection state events ++ given_by the_connection (replay state events) more
given_by-append state [] more = refl
given_by-append state (event ∷ events) more =
    ap (λ l. given the_connection state event ++ l) (given_by-append (step state event) events more)
    ∙ sym (append_assoc (given the_connection state event) (given_by the_connection (step state event) events) (given_by the_connection (replay (step state event) events) more))

-- ---- one turn

-- two keys are the same if they came at one moment, and what they asked for ended alike
same-keys : (one other : Option TimedKey) → HasSameMoment one other → HasSameKeyFates one other → one ≡ other
same-keys None None moment fates = refl
same-keys None (Some other) moment fates = absurd fates
same-keys (Some one) None moment fates = absurd fates
same-keys (Some one) (Some other) moment fates = λ i. Some (record { now = moment i; fates = fates i })

-- alike requests lead to the same, and not only to one state
served-alike : (state : State) (one other : Recorded) → AreAlike one.arrival other.arrival → one.fates ≡ other.fates → served one state ≡ served other state
served-alike state one other alike fates =
    let call = other.arrival.request.call in
    let here : Ran = ran one.arrival.conn (brought_with other.arrival.now one.arrival.request.call) (plan_of other.arrival.salt one.arrival.request.call) one.fates state in
    let same : served one state ≡ here =
    moment-alike one.arrival.conn state one.arrival.request.call one.fates one.arrival.now other.arrival.now one.arrival.salt other.arrival.salt alike.moment alike.salt in
    same ∙ (λ i. ran (alike.conn i) (brought_with other.arrival.now (alike.call i)) (plan_of other.arrival.salt (alike.call i)) (fates i) state)

-- so they give the same work
work-alike : (state : State) (one other : TimedRequest) → AreAlike (recorded_of the_connection one).arrival (recorded_of the_connection other).arrival → one.fates ≡ other.fates
    → work_for the_connection state one ≡ work_for the_connection state other
work-alike state one other alike fates =
    let same = served-alike state (recorded_of the_connection one) (recorded_of the_connection other) alike fates in
    λ i. work_of (alike.call i) (same i).answer (same i).state

-- what follows a request that led to this state and gave this work
abbrev behind : State → Option Work → Option TimedKey → List Event
behind here work key = taking the_connection here ++ finishing the_connection (replay here (taking the_connection here)) work key

-- where two turns lead to, and what they give
record AreOneTurn (state : State) (one other : TimedRequest) : Type 0 where
  next : replay state (turn the_connection state one) ≡ replay state (turn the_connection state other)
  gives : given_by the_connection state (turn the_connection state one) ≡ given_by the_connection state (turn the_connection state other)

turn-alike : (state : State) (one other : TimedRequest) → AreAlike (recorded_of the_connection one).arrival (recorded_of the_connection other).arrival → HasSameMoment one.key other.key
    → one.fates ≡ other.fates → HasSameKeyFates one.key other.key → AreOneTurn state one other
turn-alike state one other alike moment fates keys =
    let here = step_alike state (recorded_of the_connection one) (recorded_of the_connection other) alike fates in
    let work = work-alike state one other alike fates in
    let key = same-keys one.key other.key moment keys in
    record {
      next = λ i. replay (here i) (behind (here i) (work i) (key i));
      gives = λ i. given_by the_connection (here i) (behind (here i) (work i) (key i));
    }

given-alike : (one other : List TimedRequest) (state : State) → AreAllAlike one other → HaveSameFates one other
    → given_by the_connection state (turns the_connection state one) ≡ given_by the_connection state (turns the_connection state other)
given-alike [] [] state p fates = refl
given-alike [] (b ∷ other) state p fates = absurd p
given-alike (a ∷ one) [] state p fates = absurd p
given-alike (a ∷ one) (b ∷ other) state p fates =
    let is = turn-alike state a b p.0 p.1 fates.0 fates.1 in
    let first = turn the_connection state a in
    let second = turn the_connection state b in
    given_by-append state first (turns the_connection (replay state first) one)
    ∙ (λ i. is.gives i ++ given_by the_connection (is.next i) (turns the_connection (is.next i) one))
    ∙ ap (λ l. given_by the_connection state second ++ l) (given-alike one other (replay state second) p.2 fates.2)
    ∙ sym (given_by-append state second (turns the_connection (replay state second) other))

-- ---- each storing ends the same way, since no device failed

legal-front : (state : State) (events more : List Event) → Legal state (events ++ more) → Legal state events
legal-front state [] more legal = tt
legal-front state (event ∷ events) more legal = (legal.0, legal-front (step state event) events more legal.1)

legal-behind : (state : State) (events more : List Event) → Legal state (events ++ more) → Legal (replay state events) more
legal-behind state [] more legal = legal
legal-behind state (event ∷ events) more legal = legal-behind (step state event) events more legal.1

-- no file is in doubt after what waits was taken
taking-certain : (state : State) → IsCertain state → IsCertain (replay state (taking the_connection state))
taking-certain state certain =
    let pass : (b : Bool) → IsCertain (replay state (cond b (event.Take the_connection ∷ []) [])) = elim [ true ↦ step_certain state (event.Take the_connection) tt certain | false ↦ certain ] in
    pass (is_owed the_connection state)

-- nor after a key was brought
finishing-certain : (state : State) (work : Option Work) (key : Option TimedKey) → IsKeyFaultless key → IsCertain state → IsCertain (replay state (finishing the_connection state work key))
finishing-certain state None key faultless certain = certain
finishing-certain state (Some work) None faultless certain = certain
finishing-certain state (Some work) (Some key) faultless certain =
    let brings = derivation the_connection work key in
    taking-certain (step state brings) (step_certain state brings faultless certain)

behind-certain : (here : State) (work : Option Work) (key : Option TimedKey) → IsKeyFaultless key → IsCertain here → IsCertain (replay here (behind here work key))
behind-certain here work key faultless certain =
    let take = taking the_connection here in
    let mid = replay here take in
    subst IsCertain (sym (replay-append here take (finishing the_connection mid work key))) (finishing-certain mid work key faultless (taking-certain here certain))

-- two keys of one work end alike, and a request that gave none has none
keys-agree : (here : State) (work : Option Work) (one other : Option TimedKey) → IsCertain here → HasSameMoment one other → is_some one ≡ is_some work → is_some other ≡ is_some work
    → Legal here (behind here work one) → Legal here (behind here work other) → IsKeyFaultless one → IsKeyFaultless other → HasSameKeyFates one other
keys-agree here work None None certain moment first second legal legal' faultless faultless' = tt
keys-agree here None None (Some other) certain moment first second legal legal' faultless faultless' = absurd (let never : true ≡ false = second in cc)
keys-agree here None (Some one) other certain moment first second legal legal' faultless faultless' = absurd (let never : true ≡ false = first in cc)
keys-agree here (Some work) None (Some other) certain moment first second legal legal' faultless faultless' = absurd (let never : false ≡ true = first in cc)
keys-agree here (Some work) (Some one) None certain moment first second legal legal' faultless faultless' = absurd (let never : false ≡ true = second in cc)
keys-agree here (Some work) (Some one) (Some other) certain moment first second legal legal' faultless faultless' =
    let take = taking the_connection here in
    let mid = replay here take in
    let brings : TimedKey → List Event = λ key. finishing the_connection mid (Some work) (Some key) in
    let fits : Fits mid (derivation the_connection work one) = (legal-behind here take (brings one) legal).0 in
    let others : Fits mid (derivation the_connection work other) = (legal-behind here take (brings other) legal').0 in
    let came : Derivation = record {
      conn = the_connection;
      prompt = work.prompt;
      round = work.round;
      password = work.password;
      salt = work.salt;
      iterations = work.iterations;
      now = one.now;
      fates = one.fates;
    } in
    let again : Fits mid (event.Derived (record came { fates = other.fates })) = subst (λ now. Fits mid (event.Derived (record came { now = now; fates = other.fates }))) (sym moment) others in
    key_fates mid came other.fates fits again (taking-certain here certain) faultless faultless'

fates-agree : (one other : List TimedRequest) (state : State) → IsCertain state → AreAllAlike one other → AllFinished the_connection state one → AllFinished the_connection state other
    → Legal state (turns the_connection state one) → Legal state (turns the_connection state other) → AllFaultless one → AllFaultless other → HaveSameFates one other
fates-agree [] other state certain p done done' legal legal' faultless faultless' = tt
fates-agree (a ∷ one) [] state certain p done done' legal legal' faultless faultless' = tt
fates-agree (a ∷ one) (b ∷ other) state certain p done done' legal legal' faultless faultless' =
    let first = turn the_connection state a in
    let second = turn the_connection state b in
    let mine = legal-front state first (turns the_connection (replay state first) one) legal in
    let its = legal-front state second (turns the_connection (replay state second) other) legal' in
    let fates = fates_alike state (recorded_of the_connection a) (recorded_of the_connection b) p.0 mine.0 its.0 certain faultless.0.0 faultless'.0.0 in
    let here = step state (arrival the_connection a) in
    let work = work_for the_connection state a in
    let same : step state (arrival the_connection b) ≡ here = sym (step_alike state (recorded_of the_connection a) (recorded_of the_connection b) p.0 fates) in
    let works : work_for the_connection state b ≡ work = sym (work-alike state a b p.0 fates) in
    let known : IsCertain here = step_certain state (arrival the_connection a) faultless.0.0 certain in
    let keys = keys-agree here work a.key b.key known p.1 done.0 (done'.0 ∙ ap is_some works) mine.1
    (subst (λ (at : State × Option Work). Legal at.0 (behind at.0 at.1 b.key)) (λ i. (same i, works i)) its.1) faultless.0.1 faultless'.0.1 in
    let is = turn-alike state a b p.0 p.1 fates keys in
    let next = replay state first in (
      fates,
      keys,
      fates-agree one other next (behind-certain here work a.key faultless.0.1 known) p.2 done.1 (subst (λ s. AllFinished the_connection s other) (sym is.next) done'.1)
          (legal-behind state first (turns the_connection next one) legal)
          (subst (λ s. Legal s (turns the_connection s other)) (sym is.next) (legal-behind state second (turns the_connection (replay state second) other) legal')) faultless.1 faultless'.1,
    )

-- that the connection is gone gives nothing
given-all : (contents : Contents) (asked : List TimedRequest) → given_by the_connection (opened_state contents) (events_of contents asked) ≡ given_by the_connection (joined contents) (turns the_connection (joined contents) asked)
given-all contents asked =
    let state = joined contents in
    given_by-append state (turns the_connection state asked) (event.Gone the_connection ∷ []) ∙ append-nil (given_by the_connection state (turns the_connection state asked))

-- the requests that were read from the same bytes are alike
all-alike : OneCall → (seed : List ℕ) (run : Run) (one other : List TimedRequest) (rest left : List ℕ) → AllServed run one rest → AllServed run other left → HaveSalts seed one → HaveSalts seed other
    → HaveSameMoments one other → AreAllAlike one other
all-alike same seed run one other rest left p q salts others moments =
    let bytes : p.behind ≡ q.behind = let e = sym p.opened ∙ q.opened in cc in
    let stream = subst (λ l. Stream most_bytes l p.all.messages rest) bytes p.all.stream in
    let messages = (one_stream most_bytes q.behind rest left p.all.messages q.all.messages stream q.all.stream).0 in
    let are = subst (λ l. AreRequests (calls_in l) (requests_of one)) messages p.all.are in
    alike-of same (salt_of seed the_connection.0) (calls_in q.all.messages) one other 0 are q.all.are salts others moments

text-alike : (contents : Contents) (run : Run) (one other : List TimedRequest) → AreAllAlike one other → HaveSameFates one other → text_of contents run one ≡ text_of contents run other
text-alike contents run one other alike fates =
    ap (λ outs. concat run.answers ++ spelled_behind 0 outs) (given-all contents one ∙ given-alike one other (joined contents) alike fates ∙ sym (given-all contents other))

pub one-text : OneCall → (contents : Contents) (seed : List ℕ) (run : Run) (one other : List TimedRequest) (rest left : List ℕ) → AllServed run one rest → AllServed run other left
    → HaveSalts seed one → HaveSalts seed other → HaveSameMoments one other → HaveSameFates one other → text_of contents run one ≡ text_of contents run other
one-text same contents seed run one other rest left p q salts others moments fates =
    text-alike contents run one other (all-alike same seed run one other rest left p q salts others moments) fates

pub steady-text : OneCall → (contents : Contents) (seed : List ℕ) (run : Run) (one other : List TimedRequest) (rest left : List ℕ) → AllServed run one rest → AllServed run other left
    → HaveSalts seed one → HaveSalts seed other → HaveSameMoments one other → AreSoundContents contents → AllFinished the_connection (joined contents) one → AllFinished the_connection (joined contents) other
    → Legal (opened_state contents) (events_of contents one) → Legal (opened_state contents) (events_of contents other) → AllFaultless one → AllFaultless other
    → text_of contents run one ≡ text_of contents run other
steady-text same contents seed run one other rest left p q salts others moments sound done done' legal legal' faultless faultless' =
    let alike = all-alike same seed run one other rest left p q salts others moments in
    let start = joined contents in
    let gone = event.Gone the_connection ∷ [] in
    let certain : IsCertain start = record { collections = sound.known; aliases = sound.certain } in
    text-alike contents run one other alike (fates-agree one other start certain alike done done' (legal-front start (turns the_connection start one) gone legal.1)
    (legal-front start (turns the_connection start other) gone legal'.1) faultless faultless')
