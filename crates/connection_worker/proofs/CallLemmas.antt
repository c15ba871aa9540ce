-- One method call, from its message to what is written for it.
use Rattle.std.proofs.Common.{◌≡◌, ℕ, ◌+◌, false, true, List, [], ◌∷◌, ◌++◌, length, length-append, append_assoc, append-nil, inl, inr, Option, Some, None, Result, Ok, Err, refl, sym, ◌∙◌, ap, subst, arith}
use Rattle.std.specs.Option.{is_some}
use Rattle.service_desk.specs.secret_calls.specs.declared.call.Request.{Request}
use Rattle.service_desk.specs.secret_calls.specs.declared.work.Work.{Work}
use Rattle.service_desk.specs.service_tables.specs.Sound.{IsSound}
use Rattle.service_desk.specs.service_tables.specs.State.{State}
use Rattle.service_desk.specs.service_tables.specs.Connections.{waiting_for}
use Rattle.service_desk.specs.Places.{Told, Place}
use Rattle.service_desk.proofs.RecordLemmas.{own-legal, own-state}
use Rattle.dbus_framing.specs.Messages.{Parts}
use Rattle.call_wire.specs.CallOf.{CallOf}
use Rattle.connection_worker.specs.declared.ending.End.{End}
use Rattle.connection_worker.specs.declared.ending.End.TheVariants as end
use Rattle.connection_worker.specs.Fitting.{CanWaitTogether, FitTogether, FitsBefore, KeyFits}
use Rattle.connection_worker.specs.Replies.{key_outputs}
use Rattle.connection_worker.specs.Stopping.{StopsAtWrite}
use Rattle.connection_worker.specs.Streams.{Output, Gave, GaveFront}
use Rattle.service_desk.specs.service_events.specs.Replay.{replay}
use Rattle.service_desk.specs.service_events.proofs.ReplayLemmas.{replay-append}
use Rattle.service_desk.specs.service_events.specs.Single.{MayBeFinished, TimedKey, TimedRequest, arrival, asking, derivation, taking, turns, work_for}
use Rattle.service_desk.specs.service_events.specs.Step.{Fits, step}
use Rattle.connection_worker.specs.Written.{given_by, spelled_behind}
use Rattle.connection_worker.specs.Serving.{World, place_of, IsDue, IsIdle, IsOwed, has_lost, owed, Asks, Brings, HasArrived, HasBrought, HasGiven, Gives}
use Rattle.connection_worker.specs.Answering.{AnswersCall}
use Rattle.connection_worker.proofs.StreamLemmas.{Gave-later, Gave-none, Gave-trans, GaveFront-whole, GaveFront-more, GaveFront-behind}
use Rattle.connection_worker.proofs.AnswerLemmas.{arrived-kept, arrived-lost, derived-kept, derived-lost, due-idle, given-idle, given-kept, put_to}
use Rattle.connection_worker.proofs.DeliveryLemmas.{due_row}
use Rattle.connection_worker.proofs.HandshakeLemmas.{rose-later}
use Rattle.connection_worker.proofs.SendingLemmas.{spelled_behind-append}
use Rattle.connection_worker.proofs.RecordLemmas.{asking-one, behind, given-keyed, given-keyless, given-taking, given_by-append, keyed, turn-keyed, turn-keyless, recorded-keyed, recorded-late, recorded-none, recorded-one, recorded-refused}

-- nothing was written, which is a prefix of anything
front-none : (o : Output) (text : List ℕ) → GaveFront o o text
front-none o text = GaveFront-more o o [] text (GaveFront-whole o o [] (Gave-none o))

-- there was no memory for the request
pub unread : (parts : Parts) (w : World) (serials : ℕ) (o : Output) → IsOwed w.told [] → AnswersCall parts w w serials serials o o (Err end.Memory)
unread parts w serials o idle = (
  [],
  record {
    early = tt;
    refused = [];
    late = [];
    few = omega arith;
    recorded = recorded-none w;
    finished = tt;
    idle = due-idle w.told false idle;
    fit = tt;
    wrote = λ taken behind. front-none o [];
    stops = λ taken behind. inl (Gave-none o);
  },
  tt,
)

-- nothing waits if nothing changed
idle-still : (old new : Told) → new.conn ≡ old.conn → new.state ≡ old.state → IsOwed old [] → IsIdle new
idle-still old new conn state idle = due-idle new false (record {
  sound = subst IsSound (sym state) idle.sound;
  taken = idle.taken;
  only = ap (λ (s : State). s.connections.rows) state ∙ idle.only ∙ ap (λ c. due_row c [] false idle.taken ∷ []) (sym conn);
})

-- a request without a key may have given work
keyless-may : (old : World) (a : TimedRequest) → a.key ≡ None → MayBeFinished old.told.conn old.told.state a
keyless-may old a keyless key = absurd (let no : false ≡ true = sym (ap is_some keyless) ∙ key in cc)

-- so no key is known to fit
keyless-before : (old : World) (a : TimedRequest) → a.key ≡ None → FitsBefore old.told.conn old.told.state a
keyless-before old a keyless = λ key. absurd (let no : false ≡ true = sym (ap is_some keyless) ∙ key in cc)

-- and no key puts anything out
keyless-fits : (old : World) (a : TimedRequest) → a.key ≡ None → KeyFits old.told.conn old.told.state a
keyless-fits old a keyless =
    let here = replay old.told.state (asking old.told.conn old.told.state a) in
    let pass : (work : Option Work) → CanWaitTogether (key_outputs old.told.conn here work None) = elim [ None ↦ omega arith | Some work ↦ omega arith ] in
    subst (λ k. CanWaitTogether (key_outputs old.told.conn here (work_for old.told.conn old.told.state a) k)) (sym keyless) (pass (work_for old.told.conn old.told.state a))

-- the outputs of a request whose key wasn't recorded fit if none was lost
fits-alone : (old mid : World) (a : TimedRequest) → a.key ≡ None → IsOwed old.told [] → HasArrived old mid a → has_lost mid.told ≡ false → FitTogether old.told.conn old.told.state (a ∷ [])
fits-alone old mid a keyless idle so kept = (arrived-kept old.told mid.told a idle so.calls.same.conn so.calls.state kept, keyless-fits old a keyless, tt)

-- the request wasn't recorded
pub unasked : (parts : Parts) (request : Request) (old new : World) (serials : ℕ) (o : Output) (why : End) → CallOf parts request → IsOwed old.told []
    → Asks request old new (Err why) → AnswersCall parts old new serials serials o o (Err why)
unasked parts request old new serials o end.EventsSpent call idle asks =
    let calls = asks.2.calls in (
      [],
      record {
        early = tt;
        refused = asks.0 ∷ [];
        late = [];
        few = omega arith;
        recorded = recorded-refused old new asks.0 asks.1.keyless asks.2;
        finished = keyless-may old asks.0 asks.1.keyless;
        idle = idle-still old.told new.told calls.same.conn calls.state idle;
        fit = tt;
        wrote = λ taken behind. (omega (arith, asks.3, calls.count), Gave-none o);
        stops = λ taken behind. tt;
      },
      rw asks.1.same call,
    )
unasked parts request old new serials o end.Memory call idle asks = (
  [],
  record {
    early = tt;
    refused = asks.0 ∷ [];
    late = [];
    few = omega arith;
    recorded = recorded-refused old new asks.0 asks.1.keyless asks.2;
    finished = keyless-may old asks.0 asks.1.keyless;
    idle = idle-still old.told new.told asks.2.calls.same.conn asks.2.calls.state idle;
    fit = tt;
    wrote = λ taken behind. front-none o [];
    stops = λ taken behind. inl (Gave-none o);
  },
  rw asks.1.same call,
)
unasked parts request old new serials o _ call idle asks = absurd asks

-- a request that was recorded could be
pub asked-fits : (old mid : World) (a : TimedRequest) → HasArrived old mid a → Fits old.told.state (arrival old.told.conn a)
asked-fits old mid a so = (own-legal old.told.state (arrival old.told.conn a ∷ []) so.calls.answered).0

-- and so could a key
pub brought-fits : (old new : World) (work : Work) (key : TimedKey) → HasBrought old new work key → Fits old.told.state (derivation old.told.conn work key)
brought-fits old new work key so = (own-legal old.told.state (derivation old.told.conn work key ∷ []) so.calls.answered).0

-- ---- what a request gives

-- what waits after an event, as it is seen of the place after it
waits-after : (old new : Told) (state : State) → new.conn ≡ old.conn → new.state ≡ state → waiting_for old.conn state.connections.rows ≡ owed new
waits-after old new state conn at = ap (λ (s : State). waiting_for old.conn s.connections.rows) (sym at) ∙ ap (λ c. waiting_for c new.state.connections.rows) (sym conn)

-- a request gives what waits after it
given-owed : (old mid : World) (a : TimedRequest) → a.key ≡ None → HasArrived old mid a → given_by old.told.conn old.told.state (turns old.told.conn old.told.state (a ∷ [])) ≡ owed mid.told
given-owed old mid a keyless so =
    given-keyless old.told.conn old.told.state a keyless ∙ waits-after old.told mid.told (step old.told.state (arrival old.told.conn a)) so.calls.same.conn so.calls.state

-- with its key it gives what waits after that, too
given-both : (old mid last : World) (first : Place) (a : TimedRequest) (work : Work) (key : TimedKey) → work_for old.told.conn old.told.state a ≡ Some work → HasArrived old mid a → HasGiven (place_of mid) first
    → HasBrought (behind mid first) last work key → given_by old.told.conn old.told.state (turns old.told.conn old.told.state (keyed a key ∷ [])) ≡ owed mid.told ++ owed last.told
given-both old mid last first a work key gives so taken brings =
    let conn = old.told.conn in
    let asks = asking-one old mid first a so taken in
    let here = replay old.told.state (asking conn old.told.state a) in
    let at : first.told.state ≡ here = own-state (place_of old) first (asking conn old.told.state a) asks in
    let one = waits-after old.told mid.told (step old.told.state (arrival conn a)) so.calls.same.conn so.calls.state in
    let state : last.told.state ≡ step here (derivation conn work key) =
    brings.calls.state ∙ ap (λ c. step first.told.state (derivation c work key)) asks.same.conn ∙ ap (λ s. step s (derivation conn work key)) at in
    let two = waits-after old.told last.told (step here (derivation conn work key)) (brings.calls.same.conn ∙ asks.same.conn) state in
    given-keyed conn old.told.state a work key gives ∙ (λ i. one i ++ two i)

-- a request stops at the write of what waits after it
stops-first : (old mid : World) (a : TimedRequest) (taken : ℕ) (from to : Output) → a.key ≡ None → HasArrived old mid a → GaveFront from to (spelled_behind taken (owed mid.told))
    → StopsAtWrite from to old.told.conn taken old.told.state (turns old.told.conn old.told.state (a ∷ []))
stops-first old mid a taken from to keyless so front =
    let conn = old.told.conn in
    let state = old.told.state in
    let waits = waits-after old.told mid.told (step state (arrival conn a)) so.calls.same.conn so.calls.state in
    let sum : taken ≡ taken + 0 = omega arith in
    record {
      before = arrival conn a ∷ [];
      parted = turn-keyless conn state a keyless;
      amid = from;
      whole = Gave-none from;
      front =
          subst (λ n. GaveFront from to (spelled_behind n (waiting_for conn (step state (arrival conn a)).connections.rows))) sum
          (subst (λ outs. GaveFront from to (spelled_behind taken outs)) (sym waits) front);
    }

-- with its key it stops at the write of what waits after that
stops-keyed : (old mid last : World) (first : Place) (a : TimedRequest) (work : Work) (key : TimedKey) (taken : ℕ) (from o to : Output) → work_for old.told.conn old.told.state a ≡ Some work
    → HasArrived old mid a → HasGiven (place_of mid) first → HasBrought (behind mid first) last work key → Gave from o (spelled_behind taken (owed mid.told))
    → GaveFront o to (spelled_behind (taken + length (owed mid.told)) (owed last.told)) → StopsAtWrite from to old.told.conn taken old.told.state (turns old.told.conn old.told.state (keyed a key ∷ []))
stops-keyed old mid last first a work key taken from o to gives so given brings gave front =
    let conn = old.told.conn in
    let start = old.told.state in
    let asks = asking-one old mid first a so given in
    let events = asking conn start a in
    let here = replay start events in
    let brought = derivation conn work key in
    let at : first.told.state ≡ here = own-state (place_of old) first events asks in
    let one = waits-after old.told mid.told (step start (arrival conn a)) so.calls.same.conn so.calls.state in
    let state : last.told.state ≡ step here brought =
    brings.calls.state ∙ ap (λ c. step first.told.state (derivation c work key)) asks.same.conn ∙ ap (λ s. step s brought) at in
    let two = waits-after old.told last.told (step here brought) (brings.calls.same.conn ∙ asks.same.conn) state in
    let then : replay start (events ++ brought ∷ []) ≡ step here brought = replay-append start events (brought ∷ []) in
    let outs : given_by conn start (events ++ brought ∷ []) ≡ owed mid.told =
    given_by-append conn start events (brought ∷ []) ∙ append-nil (given_by conn start events) ∙ given-taking conn (step start (arrival conn a)) ∙ one in
    let waits : waiting_for conn (replay start (events ++ brought ∷ [])).connections.rows ≡ owed last.told = ap (λ (s : State). waiting_for conn s.connections.rows) then ∙ two in
    record {
      before = events ++ brought ∷ [];
      parted =
          turn-keyed conn start a work key gives ∙ sym (append_assoc events (brought ∷ []) (taking conn (step here brought)))
          ∙ ap (λ s. (events ++ brought ∷ []) ++ taking conn s) (sym then);
      amid = o;
      whole = subst (λ l. Gave from o (spelled_behind taken l)) (sym outs) gave;
      front =
          subst (λ l. GaveFront o to (spelled_behind (taken + length l) (waiting_for conn (replay start (events ++ brought ∷ [])).connections.rows))) (sym outs)
          (subst (λ l. GaveFront o to (spelled_behind (taken + length (owed mid.told)) l)) (sym waits) front);
    }

-- ---- what waited for a request was taken

-- it wasn't all written, or an output was lost
pub broke-first : (parts : Parts) (request : Request) (work : Option Work) (old mid : World) (new : Place) (serials next : ℕ) (from to : Output) (why : End) → CallOf parts request
    → IsOwed old.told [] → IsDue mid.told (owed mid.told) (has_lost mid.told) → Asks request old mid (Ok work) → Gives (place_of mid) new serials next from to (Err why)
    → AnswersCall parts old (behind mid new) serials next from to (Err why)
broke-first parts request work old mid new serials next from to end.Overrun call idle all asks gives =
    let a = asks.0 in
    let e = given-owed old mid a asks.1.keyless asks.2 in (
      a ∷ [],
      record {
        early = tt;
        refused = [];
        late = [];
        few = (refl, refl);
        recorded = recorded-one old mid new a asks.1.keyless asks.2 gives.0;
        finished = keyless-may old a asks.1.keyless;
        idle = given-idle (place_of mid) new all gives.0;
        fit = (keyless-before old a asks.1.keyless, λ fits. arrived-lost old.told mid.told a idle asks.2.calls.same.conn asks.2.calls.state gives.1 fits.0);
        wrote = λ taken are. rw e (gives.2 taken are);
        stops = λ taken are. tt;
      },
      rw asks.1.same call,
    )
broke-first parts request work old mid new serials next from to end.WriteFault call idle all asks gives =
    let a = asks.0 in
    let e = given-owed old mid a asks.1.keyless asks.2 in (
      a ∷ [],
      record {
        early = tt;
        refused = [];
        late = [];
        few = (refl, refl);
        recorded = recorded-one old mid new a asks.1.keyless asks.2 gives.0;
        finished = keyless-may old a asks.1.keyless;
        idle = given-idle (place_of mid) new all gives.0;
        fit = keyless-before old a asks.1.keyless;
        wrote = λ taken are. rw e (gives.1, gives.2 taken are);
        stops = λ taken are. stops-first old mid a taken from to asks.1.keyless asks.2 (gives.2 taken are);
      },
      rw asks.1.same call,
    )
broke-first parts request work old mid new serials next from to end.Memory call idle all asks gives =
    let a = asks.0 in
    let e = given-owed old mid a asks.1.keyless asks.2 in (
      a ∷ [],
      record {
        early = tt;
        refused = [];
        late = [];
        few = omega arith;
        recorded = recorded-one old mid new a asks.1.keyless asks.2 gives.0;
        finished = keyless-may old a asks.1.keyless;
        idle = given-idle (place_of mid) new all gives.0;
        fit = keyless-before old a asks.1.keyless;
        wrote = λ taken are. rw e (gives.1 taken are);
        stops = λ taken are. inr (stops-first old mid a taken from to asks.1.keyless asks.2 (gives.1 taken are));
      },
      rw asks.1.same call,
    )
broke-first parts request work old mid new serials next from to _ call idle all asks gives = absurd gives

-- it was, and the request gave no work
pub answers-alone : (parts : Parts) (request : Request) (old mid : World) (new : Place) (serials next : ℕ) (from to : Output) → CallOf parts request → IsOwed old.told []
    → IsDue mid.told (owed mid.told) (has_lost mid.told) → Asks request old mid (Ok None) → Gives (place_of mid) new serials next from to (Ok tt) → AnswersCall parts old (behind mid new) serials next from to (Ok tt)
answers-alone parts request old mid new serials next from to call idle all asks gives =
    let a = asks.0 in
    let e = given-owed old mid a asks.1.keyless asks.2 in (
      a,
      rw asks.1.same call,
      record {
        recorded = recorded-one old mid new a asks.1.keyless asks.2 gives.0;
        finished = (ap is_some asks.1.keyless ∙ ap is_some asks.3, tt);
        idle = given-kept (place_of mid) new all gives.3 gives.0;
        fit = fits-alone old mid a asks.1.keyless idle asks.2 gives.3;
        as_open = gives.1;
        wrote = λ taken are. rw e (gives.2 taken are);
      },
    )

-- it was, and the key of the work wasn't recorded
pub broke-late : (parts : Parts) (request : Request) (work : Work) (old mid : World) (first : Place) (last : World) (serials next : ℕ) (from o : Output) (why : End) → CallOf parts request
    → IsOwed old.told [] → IsDue mid.told (owed mid.told) (has_lost mid.told) → Asks request old mid (Ok (Some work)) → Gives (place_of mid) first serials next from o (Ok tt) → Brings work (behind mid first) last (Err why)
    → AnswersCall parts old last serials next from o (Err why)
broke-late parts request work old mid first last serials next from o end.EventsSpent call idle all asks gives brings =
    let a = asks.0 in
    let lost = brings.1 in
    let e = given-owed old mid a asks.1.keyless asks.2 in (
      a ∷ [],
      record {
        early = tt;
        refused = [];
        late = brings.0 ∷ [];
        few = omega arith;
        recorded = recorded-late old (behind mid first) (a ∷ []) last brings.0 (recorded-one old mid first a asks.1.keyless asks.2 gives.0) lost;
        finished = keyless-may old a asks.1.keyless;
        idle = idle-still first.told last.told lost.calls.same.conn lost.calls.state (given-kept (place_of mid) first all gives.3 gives.0);
        fit = fits-alone old mid a asks.1.keyless idle asks.2 gives.3;
        wrote = λ taken are. rw e (omega (arith, brings.2, lost.calls.count), (gives.2 taken are).0);
        stops = λ taken are. tt;
      },
      rw asks.1.same call,
    )
broke-late parts request work old mid first last serials next from o end.Memory call idle all asks gives brings =
    let a = asks.0 in
    let lost = brings.1 in
    let e = given-owed old mid a asks.1.keyless asks.2 in (
      a ∷ [],
      record {
        early = tt;
        refused = [];
        late = brings.0 ∷ [];
        few = omega arith;
        recorded = recorded-late old (behind mid first) (a ∷ []) last brings.0 (recorded-one old mid first a asks.1.keyless asks.2 gives.0) lost;
        finished = keyless-may old a asks.1.keyless;
        idle = idle-still first.told last.told lost.calls.same.conn lost.calls.state (given-kept (place_of mid) first all gives.3 gives.0);
        fit = keyless-before old a asks.1.keyless;
        wrote = λ taken are. rw e (GaveFront-whole from o (spelled_behind taken (owed mid.told)) (gives.2 taken are).0);
        stops = λ taken are. inl (rw e (gives.2 taken are).0);
      },
      rw asks.1.same call,
    )
broke-late parts request work old mid first last serials next from o _ call idle all asks gives brings = absurd brings

-- ---- what waited for its key was taken

-- the outputs of a key, by the place after the request and by that before it
key-same : (old first : Told) (a : TimedRequest) (work : Work) (key : TimedKey) → work_for old.conn old.state a ≡ Some work → first.conn ≡ old.conn → first.state ≡ replay old.state (asking old.conn old.state a)
    → put_to first.conn first.state (derivation first.conn work key) ≡ key_outputs old.conn (replay old.state (asking old.conn old.state a)) (work_for old.conn old.state a) (Some key)
key-same old first a work key gives conn state =
    (λ i. put_to (conn i) (state i) (derivation (conn i) work key)) ∙ ap (λ w. key_outputs old.conn (replay old.state (asking old.conn old.state a)) w (Some key)) (sym gives)

-- and written, or not
pub answers : (parts : Parts) (request : Request) (work : Work) (key : TimedKey) (old mid last : World) (first new : Place) (serials next after : ℕ) (from o to : Output) (result : Result Unit End)
    → CallOf parts request → IsOwed old.told [] → IsDue mid.told (owed mid.told) (has_lost mid.told) → IsDue last.told (owed last.told) (has_lost last.told) → Asks request old mid (Ok (Some work))
    → Gives (place_of mid) first serials next from o (Ok tt)
    → HasBrought (behind mid first) last work key → Gives (place_of last) new next after o to result → AnswersCall parts old (behind last new) serials after from to result
answers parts request work key old mid last first new serials next after from o to (Ok done) call idle one_due all asks gives brings then =
    let a = asks.0 in
    let begun = asking-one old mid first a asks.2 gives.0 in
    let one = owed mid.told in
    let two = owed last.told in
    let e = given-both old mid last first a work key (sym asks.3) asks.2 gives.0 brings in (
      keyed a key,
      rw asks.1.same call,
      record {
        recorded = recorded-keyed old mid (behind mid first) last new a work key (sym asks.3) asks.2 (asking-one old mid first a asks.2 gives.0) refl refl brings then.0;
        finished = (ap is_some asks.3, tt);
        idle = given-kept (place_of last) new all then.3 then.0;
        fit = (
          arrived-kept old.told mid.told a idle asks.2.calls.same.conn asks.2.calls.state gives.3,
          subst CanWaitTogether (key-same old.told first.told a work key (sym asks.3) begun.same.conn (own-state (place_of old) first (asking old.told.conn old.told.state a) begun))
              (derived-kept first.told last.told work key (given-kept (place_of mid) first one_due gives.3 gives.0) brings.calls.same.conn brings.calls.state then.3),
          tt,
        );
        as_open = then.1 ∙ gives.1;
        wrote = λ taken are.
            let begun = gives.2 taken are in
            let ended = then.2 (taken + length one) begun.1 in (
              rw (e, spelled_behind-append taken one two) (Gave-trans from o to (spelled_behind taken one) (spelled_behind (taken + length one) two) begun.0 ended.0),
              rw (e, length-append one two) (omega (arith, ended.1)),
            );
      },
    )
answers parts request work key old mid last first new serials next after from o to (Err end.Overrun) call idle one_due all asks gives brings then =
    let a = asks.0 in
    let begun = asking-one old mid first a asks.2 gives.0 in
    let one = owed mid.told in
    let two = owed last.told in
    let e = given-both old mid last first a work key (sym asks.3) asks.2 gives.0 brings in (
      keyed a key ∷ [],
      record {
        early = tt;
        refused = [];
        late = [];
        few = (refl, refl);
        recorded = recorded-keyed old mid (behind mid first) last new a work key (sym asks.3) asks.2 begun refl refl brings then.0;
        finished = λ key. sym (ap is_some asks.3);
        idle = given-idle (place_of last) new all then.0;
        fit = (
          λ key. arrived-kept old.told mid.told a idle asks.2.calls.same.conn asks.2.calls.state gives.3,
          λ fits. derived-lost first.told last.told work key (given-kept (place_of mid) first one_due gives.3 gives.0) brings.calls.same.conn brings.calls.state then.1
              (subst CanWaitTogether (sym (key-same old.told first.told a work key (sym asks.3) begun.same.conn (own-state (place_of old) first (asking old.told.conn old.told.state a) begun))) fits.1),
        );
        wrote = λ taken are.
            let first = gives.2 taken are in
            rw (e, spelled_behind-append taken one two) (Gave-trans from o to (spelled_behind taken one) (spelled_behind (taken + length one) two) first.0 (then.2 (taken + length one) first.1));
        stops = λ taken are. tt;
      },
      rw asks.1.same call,
    )
answers parts request work key old mid last first new serials next after from o to (Err end.WriteFault) call idle one_due all asks gives brings then =
    let a = asks.0 in
    let one = owed mid.told in
    let two = owed last.told in
    let e = given-both old mid last first a work key (sym asks.3) asks.2 gives.0 brings in (
      keyed a key ∷ [],
      record {
        early = tt;
        refused = [];
        late = [];
        few = (refl, refl);
        recorded = recorded-keyed old mid (behind mid first) last new a work key (sym asks.3) asks.2 (asking-one old mid first a asks.2 gives.0) refl refl brings then.0;
        finished = λ key. sym (ap is_some asks.3);
        idle = given-idle (place_of last) new all then.0;
        fit = λ key. arrived-kept old.told mid.told a idle asks.2.calls.same.conn asks.2.calls.state gives.3;
        wrote = λ taken are.
            let begun = gives.2 taken are in
            rw (e, spelled_behind-append taken one two) (
              rose-later from.faults o.faults to.faults (Gave-later from o (spelled_behind taken one) begun.0) then.1,
              GaveFront-behind from o to (spelled_behind taken one) (spelled_behind (taken + length one) two) begun.0 (then.2 (taken + length one) begun.1),
            );
        stops = λ taken are.
            let begun = gives.2 taken are in
            stops-keyed old mid last first a work key taken from o to (sym asks.3) asks.2 gives.0 brings begun.0 (then.2 (taken + length one) begun.1);
      },
      rw asks.1.same call,
    )
answers parts request work key old mid last first new serials next after from o to (Err end.Memory) call idle one_due all asks gives brings then =
    let a = asks.0 in
    let one = owed mid.told in
    let two = owed last.told in
    let e = given-both old mid last first a work key (sym asks.3) asks.2 gives.0 brings in (
      keyed a key ∷ [],
      record {
        early = tt;
        refused = [];
        late = [];
        few = omega arith;
        recorded = recorded-keyed old mid (behind mid first) last new a work key (sym asks.3) asks.2 (asking-one old mid first a asks.2 gives.0) refl refl brings then.0;
        finished = λ key. sym (ap is_some asks.3);
        idle = given-idle (place_of last) new all then.0;
        fit = λ key. arrived-kept old.told mid.told a idle asks.2.calls.same.conn asks.2.calls.state gives.3;
        wrote = λ taken are.
            let begun = gives.2 taken are in
            rw (e, spelled_behind-append taken one two)
            (GaveFront-behind from o to (spelled_behind taken one) (spelled_behind (taken + length one) two) begun.0 (then.1 (taken + length one) begun.1));
        stops = λ taken are.
            let begun = gives.2 taken are in
            inr (stops-keyed old mid last first a work key taken from o to (sym asks.3) asks.2 gives.0 brings begun.0 (then.1 (taken + length one) begun.1));
      },
      rw asks.1.same call,
    )
answers parts request work key old mid last first new serials next after from o to (Err _) call idle one_due all asks gives brings then = absurd then
