-- Calls of a desk one after another record what each of them does.
use Rattle.std.proofs.Common.{◌≡◌, ◌+◌, IsTrue, List, [], ◌∷◌, ◌++◌, length, refl, ap, ◌∙◌, sym, subst, arith, length-append, append_assoc}
use Rattle.std.specs.List.{AllByRecursion}
use Rattle.std.proofs.lemmas.List.{map-append, length-map}
use Rattle.service_events.specs.service_tables.specs.State.{State}
use Rattle.service_events.specs.declared.event.Event.{Event}
use Rattle.service_events.specs.declared.event.Output.{Output}
use Rattle.service_events.specs.Fates.{IsFaultless}
use Rattle.service_events.specs.Step.{step, output_of}
use Rattle.service_events.specs.Replay.{replay, Legal}
use Rattle.service_events.proofs.ReplayLemmas.{replay-append}
use Rattle.service_events.specs.service_tables.proofs.EachLemmas.{each-append}
use Rattle.service_desk.specs.Places.{Told, Place, IsSame, Looks, Extends}
use Rattle.service_desk.specs.Views.{View, with_others, with_own}
use Rattle.service_desk.specs.Records.{Seen, Others, Own, event_of, events_of, IsOwn, IsOwnFaultless, AreAnswered, with_seen, Records, of_others, of_own}
use Rattle.service_desk.proofs.ViewLemmas.{with-no-others}

-- ---- events that were seen, one list after the other

pub answered-append : (state : State) (seen more : List Seen) → AreAnswered state seen → AreAnswered (replay state (events_of seen)) more → AreAnswered state (seen ++ more)
answered-append state [] more is then = then
answered-append state (Others event ∷ seen) more is then = (is.0, answered-append (step state event) seen more is.1 then)
answered-append state (Own event answer ∷ seen) more is then = (is.0, is.1, answered-append (step state event) seen more is.2 then)

pub with_seen-append : (seen more : List Seen) (view : View) → with_seen (seen ++ more) view ≡ with_seen more (with_seen seen view)
with_seen-append [] more view = refl
with_seen-append (Others event ∷ seen) more view = with_seen-append seen more (with_others (event ∷ []) view)
with_seen-append (Own event answer ∷ seen) more view = with_seen-append seen more (with_own event view)

-- ---- events of others

others-answered : (state : State) (events : List Event) → Legal state events → AreAnswered state (of_others events)
others-answered state [] legal = tt
others-answered state (event ∷ events) legal = (legal.0, others-answered (step state event) events legal.1)

others-faultless : (events : List Event) → AllByRecursion IsOwnFaultless (of_others events)
others-faultless [] = tt
others-faultless (event ∷ events) = (tt, others-faultless events)

others-events : (events : List Event) → events_of (of_others events) ≡ events
others-events [] = refl
others-events (event ∷ events) = ap (λ l. event ∷ l) (others-events events)

others-view : (events : List Event) (view : View) → with_seen (of_others events) view ≡ with_others events view
others-view [] view = sym (with-no-others view)
others-view (event ∷ events) view =
    others-view events (with_others (event ∷ []) view) ∙ λ i. record view { seen = append_assoc view.seen (event ∷ []) events i }

-- ---- events of its own

pub own-append : (state : State) (events more : List Event) → of_own state (events ++ more) ≡ of_own state events ++ of_own (replay state events) more
own-append state [] more = refl
own-append state (event ∷ events) more = ap (λ l. Own event (output_of state event) ∷ l) (own-append (step state event) events more)

pub own-events : (state : State) (events : List Event) → events_of (of_own state events) ≡ events
own-events state [] = refl
own-events state (event ∷ events) = ap (λ l. event ∷ l) (own-events (step state event) events)

pub own-length : (state : State) (events : List Event) → length (of_own state events) ≡ length events
own-length state [] = refl
own-length state (event ∷ events) = omega (arith, own-length (step state event) events)

-- ---- calls

pub same-place : (told : Told) → IsSame told told
same-place told = record { conn = refl; home = refl; alone = refl; steady = refl; waiting = refl }

pub same-on : (a b c : Told) → IsSame a b → IsSame b c → IsSame a c
same-on a b c p q = record { conn = q.conn ∙ p.conn; home = q.home ∙ p.home; alone = q.alone ∙ p.alone; steady = q.steady ∙ p.steady; waiting = q.waiting ∙ p.waiting }

-- no call
pub records-none : (place : Place) → Records place place []
records-none place = record {
  alone = λ _. tt;
  faultless = λ _. tt;
  answered = tt;
  state = refl;
  count = omega arith;
  same = same-place place.told;
  views = λ view seen. seen;
}

-- one call after others
pub records-more : (old mid new : Place) (seen more : List Seen) → Records old mid seen → Records mid new more → Records old new (seen ++ more)
records-more old mid new seen more p q = record {
  alone = λ alone. each-append IsOwn seen more (p.alone alone) (q.alone (p.same.alone ∙ alone));
  faultless = λ steady. each-append IsOwnFaultless seen more (p.faultless steady) (q.faultless (p.same.steady ∙ steady));
  answered = answered-append old.told.state seen more p.answered (rw (sym p.state) q.answered);
  state =
      q.state ∙ ap (λ s. replay s (events_of more)) p.state ∙ sym (replay-append old.told.state (events_of seen) (events_of more))
      ∙ ap (replay old.told.state) (sym (map-append event_of seen more));
  count = omega (arith, p.count, q.count, length-append seen more);
  same = same-on old.told mid.told new.told p.same q.same;
  views = λ view was. rw (with_seen-append seen more view) (q.views (with_seen seen view) (p.views view was));
}

-- a call that records nothing of its own
pub looks-records : (old new : Place) → (looks : Looks old new) → Records old new (of_others looks.between)
looks-records old new looks = record {
  alone = λ alone. rw (looks.alone alone) tt;
  faultless = λ _. others-faultless looks.between;
  answered = others-answered old.told.state looks.between looks.legal;
  state = rw (others-events looks.between) looks.state;
  count = omega (arith, looks.count, length-map looks.between (λ event. Others event));
  same = looks.same;
  views = λ view was. rw (others-view looks.between view) (looks.views view was);
}

-- a call that records an event
pub extends-records : (old new : Place) (event : Event) (answer : Output) → (extends : Extends old new event answer)
    → Records old new (of_others extends.between ++ Own event answer ∷ [])
extends-records old new event answer extends =
    let others = of_others extends.between in
    let own = Own event answer ∷ [] in
    let here : extends.at ≡ replay old.told.state (events_of others) = rw (others-events extends.between) extends.reached in
    record {
      alone = λ alone. rw (extends.alone alone) (tt, tt);
      faultless = λ steady. each-append IsOwnFaultless others own (others-faultless extends.between) (extends.faultless steady, tt);
      answered = answered-append old.told.state others own (others-answered old.told.state extends.between extends.legal) (rw (sym here) (extends.fits, extends.answers, tt));
      state =
          extends.state ∙ ap (λ s. step s event) here ∙ sym (replay-append old.told.state (events_of others) (event ∷ []))
          ∙ ap (replay old.told.state) (sym (map-append event_of others own));
      count = omega (arith, extends.count, length-append others own, length-map extends.between (λ event. Others event));
      same = extends.same;
      views = λ view was. rw (with_seen-append others own view, others-view extends.between view) (extends.views view was);
    }

-- ---- calls of a desk that is alone

pub alone-looks : (old new : Place) → IsTrue old.told.is_alone → Looks old new → Records old new []
alone-looks old new alone looks = subst (λ between. Records old new (of_others between)) (looks.alone alone) (looks-records old new looks)

pub alone-extends : (old new : Place) (event : Event) (answer : Output) → IsTrue old.told.is_alone → Extends old new event answer → Records old new (of_own old.told.state (event ∷ []))
alone-extends old new event answer alone extends =
    let none : extends.between ≡ [] = extends.alone alone in
    let here : extends.at ≡ old.told.state = extends.reached ∙ ap (replay old.told.state) none in
    let said : answer ≡ output_of old.told.state event = extends.answers ∙ ap (λ s. output_of s event) here in
    let one : of_others extends.between ++ Own event answer ∷ [] ≡ Own event (output_of old.told.state event) ∷ [] =
    ap (λ between. of_others between ++ Own event answer ∷ []) none ∙ ap (λ said. Own event said ∷ []) said in
    subst (λ seen. Records old new seen) one (extends-records old new event answer extends)

-- events of its own are legal
pub own-legal : (state : State) (events : List Event) → AreAnswered state (of_own state events) → Legal state events
own-legal state [] is = tt
own-legal state (event ∷ events) is = (is.0, own-legal (step state event) events is.2)

pub own-answered : (state : State) (events : List Event) → Legal state events → AreAnswered state (of_own state events)
own-answered state [] legal = tt
own-answered state (event ∷ events) legal = (legal.0, refl, own-answered (step state event) events legal.1)

pub own-own : (state : State) (events : List Event) → AllByRecursion IsOwn (of_own state events)
own-own state [] = tt
own-own state (event ∷ events) = (tt, own-own (step state event) events)

-- so none of its own has a fault if the desk is steady
pub own-faultless : (state : State) (events : List Event) → AllByRecursion IsOwnFaultless (of_own state events) → AllByRecursion IsFaultless events
own-faultless state [] are = tt
own-faultless state (event ∷ events) are = (are.0, own-faultless (step state event) events are.1)

pub faultless-own : (state : State) (events : List Event) → AllByRecursion IsFaultless events → AllByRecursion IsOwnFaultless (of_own state events)
faultless-own state [] are = tt
faultless-own state (event ∷ events) are = (are.0, faultless-own (step state event) events are.1)

-- the state after events of its own, and their number
pub own-state : (old new : Place) (events : List Event) → Records old new (of_own old.told.state events) → new.told.state ≡ replay old.told.state events
own-state old new events so = so.state ∙ ap (replay old.told.state) (own-events old.told.state events)

pub own-count : (old new : Place) (events : List Event) → Records old new (of_own old.told.state events) → new.told.count ≡ old.told.count + length events
own-count old new events so = omega (arith, so.count, own-length old.told.state events)
