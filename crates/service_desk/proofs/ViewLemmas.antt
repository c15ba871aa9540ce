-- Views continue: after events of others, and after those of their own.
use Rattle.std.proofs.Common.{◌≡◌, ℕ, ◌+◌, ◌≤◌, List, [], ◌∷◌, ◌++◌, length, refl, ap, ◌∙◌, sym, arith, length-append, append-nil}
use Rattle.std.proofs.lemmas.List.{length_push}
use Rattle.service_events.specs.service_tables.specs.State.{State}
use Rattle.service_events.specs.declared.event.Event.{Event}
use Rattle.service_events.specs.Step.{step, output_of, Fits}
use Rattle.service_events.specs.Replay.{replay, Legal, outputs}
use Rattle.service_events.proofs.ReplayLemmas.{replay-append, Legal-append, outputs-append}
use Rattle.service_desk.specs.Views.{View, ArePlaces, IsView, with_others, with_own}

-- places below a bound are also below a greater one
pub places-below : (from below more : ℕ) (places : List ℕ) → ArePlaces from below places → below ≤ more → ArePlaces from more places
places-below from below more [] are less = omega (arith, are, less)
places-below from below more (place ∷ places) are less = (are.0, places-below (place + 1) below more places are.1 less)

-- a place after all the others can be added
pub places-push : (from below : ℕ) (places : List ℕ) → ArePlaces from below places → ArePlaces from (below + 1) (places ++ below ∷ [])
places-push from below [] are = (are, omega arith)
places-push from below (place ∷ places) are = (are.0, places-push (place + 1) below places are.1)

-- a service's view that begins now
pub view-now : (state : State) (count : ℕ) → (view : View) × IsView state count view
view-now state count = (
  record { start = state; before = count; seen = []; own = [] },
  record { legal = tt; leads = refl; counted = omega arith; places = omega arith },
)

pub view-others : (state : State) (count : ℕ) (view : View) (events : List Event) → IsView state count view → Legal state events
    → IsView (replay state events) (count + length events) (with_others events view)
view-others state count view events is legal = record {
  legal = Legal-append view.start view.seen events is.legal (rw (← is.leads) legal);
  leads = ap (λ s. replay s events) is.leads ∙ sym (replay-append view.start view.seen events);
  counted = omega (arith, is.counted, length-append view.seen events);
  places = places-below 0 (length view.seen) (length (view.seen ++ events)) view.own is.places (rw (length-append view.seen events) (omega arith));
}

pub view-own : (state : State) (count : ℕ) (view : View) (event : Event) → IsView state count view → Fits state event
    → IsView (step state event) (count + 1) (with_own event view)
view-own state count view event is fits = record {
  legal = Legal-append view.start view.seen (event ∷ []) is.legal (rw (← is.leads) fits, tt);
  leads = ap (λ s. step s event) is.leads ∙ sym (replay-append view.start view.seen (event ∷ []));
  counted = omega (arith, is.counted, length_push view.seen event);
  places = rw (length_push view.seen event) (places-push 0 (length view.seen) view.own is.places);
}

pub answer-behind : (state : State) (count : ℕ) (view : View) (between : List Event) (event : Event) → IsView state count view
    → outputs view.start ((view.seen ++ between) ++ event ∷ []) ≡ outputs view.start (view.seen ++ between) ++ output_of (replay state between) event ∷ []
answer-behind state count view between event is =
    outputs-append view.start (view.seen ++ between) (event ∷ [])
    ∙ ap (λ s. outputs view.start (view.seen ++ between) ++ output_of s event ∷ []) (replay-append view.start view.seen between ∙ ap (λ s. replay s between) (sym is.leads))

-- nothing of others was seen
pub with-no-others : (view : View) → with_others [] view ≡ view
with-no-others view = λ i. record view { seen = append-nil view.seen i }
