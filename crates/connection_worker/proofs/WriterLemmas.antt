-- A writer takes what waits, and writes it, one take after the other.
use Rattle.std.proofs.Common.{◌≡◌, ℕ, ◌≤◌, ◌⊎◌, true, false, inl, inr, List, [], ◌∷◌, ◌++◌, length, map, Result, Ok, Err, refl, sym, ◌∙◌, ap, arith, subst, append_assoc, append-nil, length-append}
use Rattle.std.proofs.lemmas.List.{map-append}
use Rattle.kr_base.specs.declared.ids.ConnId.{ConnId}
use Rattle.service_desk.specs.secret_calls.specs.declared.out.Out.{Out}
use Rattle.service_desk.specs.secret_calls.specs.declared.taken.Taken.{Taken}
use Rattle.service_desk.specs.secret_calls.specs.declared.taken.Taken.TheVariants as taken
use Rattle.service_desk.specs.service_tables.specs.State.{State}
use Rattle.service_desk.specs.service_events.specs.declared.event.Event.{Event}
use Rattle.service_desk.specs.service_events.specs.declared.event.Event.TheVariants as event
use Rattle.service_desk.specs.service_events.specs.declared.event.Output.TheVariants as output
use Rattle.service_desk.specs.service_events.specs.Replay.{replay}
use Rattle.service_desk.specs.service_events.specs.Step.{IsMissing}
use Rattle.service_desk.specs.service_events.proofs.ReplayLemmas.{replay-append}
use Rattle.service_desk.specs.Calls.{IsToldOf, Takes, Goes}
use Rattle.service_desk.specs.Places.{Told, Place, Looks, Extends}
use Rattle.service_desk.specs.Records.{Seen, Records, event_of, events_of, of_others, given}
use Rattle.service_desk.proofs.RecordLemmas.{looks-records, extends-records, records-none, records-more}
use Rattle.connection_worker.specs.declared.ending.End.{End}
use Rattle.connection_worker.specs.declared.ending.End.TheVariants as end
use Rattle.connection_worker.specs.Causes.{HasWritten}
use Rattle.connection_worker.specs.Sending.{AreBehind, Sends}
use Rattle.connection_worker.specs.Sides.{own_in, told_after}
use Rattle.connection_worker.specs.Streams.{Output, GaveFront}
use Rattle.connection_worker.specs.Writing.{take_event, gone_event, WroteFor, GoneFor, WriterEnds, SendsTaken, WritesNext, WrittenSoFar, LastFor, WritesOn, StopsAtTake, HasStopped}
use Rattle.connection_worker.specs.Written.{spelled_behind}
use Rattle.connection_worker.proofs.HandshakeLemmas.{rose-later}
use Rattle.connection_worker.proofs.SendingLemmas.{spelled_behind-append}
use Rattle.connection_worker.proofs.SideLemmas.{own_in-append, own_in-others, saw-looks, saw-extends}
use Rattle.connection_worker.proofs.StreamLemmas.{Gave-later, Gave-none, Gave-trans, GaveFront-behind}
use Rattle.connection_worker.proofs.TakenLemmas.{given-append}

pub written-none : (w : Place) (o : Output) → WrittenSoFar o o w w 0
written-none w o = record { seen = []; recorded = records-none w; takes = []; own = refl; wrote = Gave-none o; behind = refl }

given-others : (events : List Event) → given (of_others events) ≡ []
given-others [] = refl
given-others (event ∷ events) = given-others events

-- the outputs of one more take
given-take : (seen : List Seen) (between : List Event) (conn : ConnId) (outs : List Out) → given (seen ++ (of_others between ++ take_event conn outs ∷ [])) ≡ given seen ++ outs
given-take seen between conn outs =
    given-append seen (of_others between ++ take_event conn outs ∷ [])
    ∙ ap (λ l. given seen ++ l) (given-append (of_others between) (take_event conn outs ∷ []) ∙ ap (λ l. l ++ (outs ++ [])) (given-others between) ∙ append-nil outs)

-- what is written for outputs and for more of them
spelled-more : (outs more : List Out) → spelled_behind 0 (outs ++ more) ≡ spelled_behind 0 outs ++ spelled_behind (length outs) more
spelled-more outs more = spelled_behind-append 0 outs more ∙ ap (λ n. spelled_behind 0 outs ++ spelled_behind n more) (omega arith)

-- one more take
own-take : (seen : List Seen) (between : List Event) (conn : ConnId) (outs : List Out) (takes : List (List Out)) → own_in seen ≡ map (take_event conn) takes
    → own_in (seen ++ (of_others between ++ take_event conn outs ∷ [])) ≡ map (take_event conn) (takes ++ outs ∷ [])
own-take seen between conn outs takes own =
    own_in-append seen (of_others between ++ take_event conn outs ∷ [])
    ∙ (λ i. own i ++ (own_in-append (of_others between) (take_event conn outs ∷ []) ∙ ap (λ l. l ++ take_event conn outs ∷ []) (own_in-others between)) i)
    ∙ sym (map-append (take_event conn) takes (outs ∷ []))

-- what a take of this connection recorded
taken-here : (old mid new : Place) (outs : List Out) → mid.told.conn ≡ old.told.conn → Extends mid new (event.Take mid.told.conn) (output.Taken outs)
    → Extends mid new (event.Take old.told.conn) (output.Taken outs)
taken-here old mid new outs conn so = subst (λ c. Extends mid new (event.Take c) (output.Taken outs)) conn so

-- the result of a take that was written
abbrev pub IsDone : Result Unit End → Type 0
IsDone (Ok done) = Unit {0}
IsDone (Err why) = ⊥

-- the outputs of one more take were written
pub written-more : (from o to : Output) (old mid new : Place) (serials behind : ℕ) → WrittenSoFar from o old mid serials → WritesNext mid new serials behind o to (Ok tt)
    → WrittenSoFar from to old new behind
written-more from o to old mid new serials behind so next = pass next.taken next.takes next.sends
  where
    pass : (this : Taken) → Takes mid new this → SendsTaken this serials behind o to (Ok tt) → WrittenSoFar from to old new behind
    pass (taken.Outs outs) takes sends =
        let took = taken-here old mid new outs so.recorded.same.conn takes in
        let e : given (so.seen ++ (of_others took.between ++ take_event old.told.conn outs ∷ [])) ≡ given so.seen ++ outs = given-take so.seen took.between old.told.conn outs in
        let sent = sends.1 (length (given so.seen)) so.behind in
        record {
          seen = so.seen ++ (of_others took.between ++ take_event old.told.conn outs ∷ []);
          recorded =
              records-more old mid new so.seen (of_others took.between ++ take_event old.told.conn outs ∷ []) so.recorded
              (extends-records mid new (event.Take old.told.conn) (output.Taken outs) took);
          takes = so.takes ++ outs ∷ [];
          own = own-take so.seen took.between old.told.conn outs so.takes so.own;
          wrote =
              rw (e, spelled-more (given so.seen) outs)
              (Gave-trans from o to (spelled_behind 0 (given so.seen)) (spelled_behind (length (given so.seen)) outs) so.wrote sent.0);
          behind = rw (e, length-append (given so.seen) outs) sent.1;
        }
    pass taken.Empty takes sends = absurd sends
    pass taken.Overrun takes sends = absurd (subst IsDone sends.0 tt)
    pass taken.Closed takes sends = absurd (subst IsDone sends.0 tt)
    pass taken.Missing takes sends = absurd (subst IsDone sends.0 tt)

-- ---- the ends

-- the outputs of a take weren't all written
broke-off : (from o to : Output) (old mid new : Place) (serials behind : ℕ) (outs : List Out) (why : End) → WrittenSoFar from o old mid serials
    → Extends mid new (event.Take mid.told.conn) (output.Taken outs) → Sends outs serials behind o to (Err why) → WritesOn from to old new why
broke-off from o to old mid new serials behind outs why so takes sends =
    let took = taken-here old mid new outs so.recorded.same.conn takes in
    let seen = so.seen ++ (of_others took.between ++ take_event old.told.conn outs ∷ []) in
    let e : given seen ≡ given so.seen ++ outs = given-take so.seen took.between old.told.conn outs in
    let recorded = records-more old mid new so.seen (of_others took.between ++ take_event old.told.conn outs ∷ []) so.recorded (extends-records mid new (event.Take old.told.conn) (output.Taken outs) took) in
    let front : GaveFront o to (spelled_behind (length (given so.seen)) outs) → GaveFront from to (spelled_behind 0 (given seen)) =
    λ f. rw (e, spelled-more (given so.seen) outs) (GaveFront-behind from o to (spelled_behind 0 (given so.seen)) (spelled_behind (length (given so.seen)) outs) so.wrote f) in
    let stops : GaveFront o to (spelled_behind (length (given so.seen)) outs) → StopsAtTake from to old.told.conn seen =
    λ f. record {
      before = so.seen;
      behind = of_others took.between ++ take_event old.told.conn outs ∷ [];
      parted = refl;
      outs = outs;
      only = own_in-append (of_others took.between) (take_event old.told.conn outs ∷ []) ∙ ap (λ l. l ++ take_event old.told.conn outs ∷ []) (own_in-others took.between);
      amid = o;
      whole = so.wrote;
      front = f;
    } in
    let ends = pass why seen (told_after old.told seen) so.behind (Gave-later from o (spelled_behind 0 (given so.seen)) so.wrote) front stops sends in
    record {
      seen = seen;
      last = [];
      recorded = let n : seen ++ [] ≡ seen = append-nil seen in rw n recorded;
      takes = so.takes ++ outs ∷ [];
      own = own-take so.seen took.between old.told.conn outs so.takes so.own;
      wrote = ends.0;
      cause = ends.1;
      last_is = ends.2;
      stopped = ends.3;
    }
  where
    pass : (why : End) (seen : List Seen) (told : Told) → AreBehind (length (given so.seen)) serials → from.faults ≤ o.faults
        → (GaveFront o to (spelled_behind (length (given so.seen)) outs) → GaveFront from to (spelled_behind 0 (given seen)))
        → (GaveFront o to (spelled_behind (length (given so.seen)) outs) → StopsAtTake from to old.told.conn seen) → Sends outs serials behind o to (Err why)
        → HasWritten why from to (spelled_behind 0 (given seen)) × WroteFor why told from to × LastFor why old.told.conn [] × HasStopped why from to old.told.conn seen
    pass end.WriteFault seen told behind later front stops sends =
        let put = sends.1 (length (given so.seen)) behind in
        (front put, rose-later from.faults o.faults to.faults later sends.0, refl, stops put)
    pass end.Memory seen told behind later front stops sends =
        let put = sends (length (given so.seen)) behind in
        (front put, tt, refl, stops put)
    pass _ seen told behind later front stops sends = absurd sends

-- nothing was there to be written
looked-on : (from o : Output) (old mid new : Place) (serials : ℕ) (why : End) → (so : WrittenSoFar from o old mid serials) → (looks : Looks mid new)
    → HasWritten why from o (spelled_behind 0 (given so.seen)) → ((told : Told) → told.conn ≡ new.told.conn → told.state ≡ new.told.state → WroteFor why told from o)
    → LastFor why old.told.conn [] → ((seen : List Seen) → HasStopped why from o old.told.conn seen) → WritesOn from o old new why
looked-on from o old mid new serials why so looks wrote cause last stopped =
    let seen = so.seen ++ of_others looks.between in
    let recorded = records-more old mid new so.seen (of_others looks.between) so.recorded (looks-records mid new looks) in
    let same : given seen ≡ given so.seen = given-append so.seen (of_others looks.between) ∙ ap (λ l. given so.seen ++ l) (given-others looks.between) ∙ append-nil (given so.seen) in
    record {
      seen = seen;
      last = [];
      recorded = let n : seen ++ [] ≡ seen = append-nil seen in rw n recorded;
      takes = so.takes;
      own = own_in-append so.seen (of_others looks.between) ∙ ap (λ l. own_in so.seen ++ l) (own_in-others looks.between) ∙ append-nil (own_in so.seen) ∙ so.own;
      wrote = rw same wrote;
      cause = cause (told_after old.told seen) (sym recorded.same.conn) (sym recorded.state);
      last_is = last;
      stopped = stopped seen;
    }

events-others : (events : List Event) → events_of (of_others events) ≡ events
events-others [] = refl
events-others (event ∷ events) = ap (λ l. event ∷ l) (events-others events)

-- the state after others were seen
after-others : (state : State) (seen : List Seen) (between : List Event) → replay (replay state (events_of seen)) between ≡ replay state (events_of (seen ++ of_others between))
after-others state seen between =
    ap (replay (replay state (events_of seen))) (sym (events-others between)) ∙ sym (replay-append state (events_of seen) (events_of (of_others between)))
    ∙ ap (replay state) (sym (map-append event_of seen (of_others between)))

-- everything was done
closed-on : (from o : Output) (old mid new : Place) (serials : ℕ) → WrittenSoFar from o old mid serials → (gone : Extends mid new (event.Gone mid.told.conn) output.Gone)
    → IsToldOf mid.told.conn gone.at false false true → WritesOn from o old new end.Done
closed-on from o old mid new serials so gone told =
    let conn = so.recorded.same.conn in
    let others = of_others gone.between in
    let seen = so.seen ++ others in
    let same : given seen ≡ given so.seen = given-append so.seen others ∙ ap (λ l. given so.seen ++ l) (given-others gone.between) ∙ append-nil (given so.seen) in
    let here : gone.at ≡ replay old.told.state (events_of seen) =
    gone.reached ∙ ap (λ s. replay s gone.between) so.recorded.state ∙ after-others old.told.state so.seen gone.between in
    let last : Records mid new (others ++ gone_event old.told.conn ∷ []) =
    subst (λ c. Records mid new (others ++ gone_event c ∷ [])) conn (extends-records mid new (event.Gone mid.told.conn) output.Gone gone) in
    record {
      seen = seen;
      last = gone_event old.told.conn ∷ [];
      recorded =
          subst (λ l. Records old new l) (sym (append_assoc so.seen others (gone_event old.told.conn ∷ [])))
          (records-more old mid new so.seen (others ++ gone_event old.told.conn ∷ []) so.recorded last);
      takes = so.takes;
      own = own_in-append so.seen others ∙ ap (λ l. own_in so.seen ++ l) (own_in-others gone.between) ∙ append-nil (own_in so.seen) ∙ so.own;
      wrote = rw same so.wrote;
      cause = subst (λ s. IsToldOf old.told.conn s false false true) here (subst (λ c. IsToldOf c gone.at false false true) conn told);
      last_is = refl;
      stopped = tt;
    }

-- the end in a result
abbrev pub end_in : End → Result Unit End → End
end_in how (Ok done) = how
end_in how (Err why) = why

-- the same end, and nothing was written by it
same-end : (from o to : Output) (old new : Place) (how why : End) (result : Result Unit End) → result ≡ Err how → to ≡ o → end_in how result ≡ why → WritesOn from o old new how
    → WritesOn from to old new why
same-end from o to old new how why result is still same so =
    subst (λ w. WritesOn from to old new w) (sym (ap (end_in how) is) ∙ same) (subst (λ t. WritesOn from t old new how) (sym still) so)

pub writes-end : (from o to : Output) (old mid new : Place) (serials behind : ℕ) (why : End) → WrittenSoFar from o old mid serials → WritesNext mid new serials behind o to (Err why)
    → WritesOn from to old new why
writes-end from o to old mid new serials behind why so next = pass next.taken next.takes next.sends
  where
    pass : (this : Taken) → Takes mid new this → SendsTaken this serials behind o to (Err why) → WritesOn from to old new why
    pass (taken.Outs outs) takes sends = broke-off from o to old mid new serials behind outs why so takes sends
    pass taken.Empty takes sends = absurd sends
    pass taken.Overrun takes sends =
        same-end from o to old new end.Overrun why (Err why) sends.0 sends.1 refl
        (looked-on from o old mid new serials end.Overrun so takes.0 so.wrote
        (λ told conn state. (takes.1.0, subst (λ c. IsToldOf c told.state false true takes.1.0) (sym conn) (subst (λ s. IsToldOf new.told.conn s false true takes.1.0) (sym state) takes.1.1))) refl (λ seen. tt))
    pass taken.Closed takes sends = same-end from o to old new end.Done why (Err why) sends.0 sends.1 refl (closed-on from o old mid new serials so takes.0 takes.1)
    pass taken.Missing takes sends =
        same-end from o to old new end.OtherEnded why (Err why) sends.0 sends.1 refl
        (looked-on from o old mid new serials end.OtherEnded so takes.0 so.wrote
        (λ told conn state. subst (λ c. IsMissing c told.state) (sym conn) (subst (λ s. IsMissing new.told.conn s) (sym state) takes.1)) refl (λ seen. tt))

-- ---- the connection is gone

-- what was recorded then
goes-saw : (mid new : Place) → Goes mid new
    → (last : List Seen) × Records mid new last × ((own_in last ≡ gone_event mid.told.conn ∷ []) ⊎ ((own_in last ≡ []) × IsMissing mid.told.conn new.told.state))
goes-saw mid new (inl so) =
    let saw = saw-extends mid new (event.Gone mid.told.conn) output.Gone so in
    (saw.0, saw.1, inl saw.2)
goes-saw mid new (inr so) =
    let saw = saw-looks mid new so.0 in
    (saw.0, saw.1, inr (saw.2, subst (λ c. IsMissing c new.told.state) so.0.same.conn so.1))

-- the desk got a report after an end that leaves the connection there
goes-after : (from to : Output) (old mid new : Place) (how : End) → (so : WritesOn from to old mid how) → so.last ≡ []
    → ((last : List Seen) → (own_in last ≡ gone_event old.told.conn ∷ []) ⊎ ((own_in last ≡ []) × IsMissing old.told.conn new.told.state) → GoneFor how old.told.conn new.told.state last)
    → Goes mid new → WriterEnds from to old new how
goes-after from to old mid new how so none gone goes =
    let saw = goes-saw mid new goes in
    let conn = so.recorded.same.conn in
    let before : Records old mid so.seen = subst (λ l. Records old mid l) (ap (λ l. so.seen ++ l) none ∙ append-nil so.seen) so.recorded in
    record {
      seen = so.seen;
      last = saw.0;
      recorded = records-more old mid new so.seen saw.0 before saw.1;
      takes = so.takes;
      own = so.own;
      wrote = so.wrote;
      cause = so.cause;
      stopped = so.stopped;
      gone = gone saw.0 (subst (λ c. (own_in saw.0 ≡ gone_event c ∷ []) ⊎ ((own_in saw.0 ≡ []) × IsMissing c new.told.state)) conn saw.2);
    }

-- after any other end than these two
pub writer-goes : (from to : Output) (old mid new : Place) (how : End) → (how ≡ end.Done → ⊥) → (how ≡ end.OtherEnded → ⊥) → WritesOn from to old mid how → Goes mid new → WriterEnds from to old new how
writer-goes from to old mid new end.Done not_done not_ended so goes = absurd (not_done refl)
writer-goes from to old mid new end.OtherEnded not_done not_ended so goes = absurd (not_ended refl)
writer-goes from to old mid new end.Overrun not_done not_ended so goes = goes-after from to old mid new end.Overrun so so.last_is (λ last is. is) goes
writer-goes from to old mid new end.WriteFault not_done not_ended so goes = goes-after from to old mid new end.WriteFault so so.last_is (λ last is. is) goes
writer-goes from to old mid new end.Memory not_done not_ended so goes = goes-after from to old mid new end.Memory so so.last_is (λ last is. is) goes
writer-goes from to old mid new end.EventsSpent not_done not_ended so goes = absurd so.cause
writer-goes from to old mid new end.ReadFault not_done not_ended so goes = absurd so.cause
writer-goes from to old mid new (end.Violation cause) not_done not_ended so goes = absurd so.cause
writer-goes from to old mid new (end.AuthRefused cause) not_done not_ended so goes = absurd so.cause
