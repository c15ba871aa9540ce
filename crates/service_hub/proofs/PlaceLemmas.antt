-- The own events of a desk are at the places that its view has of them.
use Rattle.std.proofs.Common.{ℕ, List, [], ◌∷◌, ◌++◌, length, refl, sym, ap, ◌∙◌, subst, append_assoc, append-nil}
use Rattle.shared_service.specs.service_tables.specs.State.{State}
use Rattle.shared_service.specs.service_events.specs.declared.event.Event.{Event}
use Rattle.shared_service.specs.service_events.specs.declared.event.Output.{Output}
use Rattle.shared_service.specs.service_events.proofs.ReplayLemmas.{replay-append}
use Rattle.shared_service.specs.service_desk.specs.Records.{Seen, Others, Own, AreAnswered, with_seen}
use Rattle.shared_service.specs.service_desk.specs.Views.{View, state_of, with_others, with_own}
use Rattle.daemon.specs.connection_worker.specs.Sides.{own_in}
use Rattle.service_hub.specs.Places.{IsAt, AreAt}

-- they stay there, whatever follows
at-more : (start : State) (log more : List Event) (place : ℕ) (event : Event) (answer : Output) → IsAt start log place event answer → IsAt start (log ++ more) place event answer
at-more start log more place event answer is = record {
  before = is.before;
  after = is.after ++ more;
  log_is = ap (λ l. l ++ more) is.log_is ∙ append_assoc is.before (event ∷ is.after) more;
  place_is = is.place_is;
  answer_is = is.answer_is;
}

pub all-more : (start : State) (log more : List Event) (places : List ℕ) (owned : List Seen) → AreAt start log places owned → AreAt start (log ++ more) places owned
all-more start log more [] [] are = tt
all-more start log more [] (own ∷ owned) are = absurd are
all-more start log more (place ∷ places) [] are = absurd are
all-more start log more (place ∷ places) (Others event ∷ owned) are = absurd are
all-more start log more (place ∷ places) (Own event answer ∷ owned) are = (at-more start log more place event answer are.0, all-more start log more places owned are.1)

-- one more at the end
at-push : (start : State) (log : List Event) (places : List ℕ) (owned : List Seen) (place : ℕ) (event : Event) (answer : Output) → AreAt start log places owned → IsAt start log place event answer
    → AreAt start log (places ++ place ∷ []) (owned ++ Own event answer ∷ [])
at-push start log [] [] place event answer are is = (is, tt)
at-push start log [] (own ∷ owned) place event answer are is = absurd are
at-push start log (first ∷ places) [] place event answer are is = absurd are
at-push start log (first ∷ places) (Others other ∷ owned) place event answer are is = absurd are
at-push start log (first ∷ places) (Own other said ∷ owned) place event answer are is = (are.0, at-push start log places owned place event answer are.1 is)

-- after what a desk has seen, its own events are at its places
pub seen-at : (seen : List Seen) (view : View) (owned : List Seen) → AreAt view.start view.seen view.own owned → AreAnswered (state_of view) seen
    → AreAt (with_seen seen view).start (with_seen seen view).seen (with_seen seen view).own (owned ++ own_in seen)
seen-at [] view owned are answered = rw (append-nil owned) are
seen-at (Others event ∷ more) view owned are answered =
    seen-at more (with_others (event ∷ []) view) owned (all-more view.start view.seen (event ∷ []) view.own owned are)
    (subst (λ (s : State). AreAnswered s more) (sym (replay-append view.start view.seen (event ∷ []))) answered.1)
seen-at (Own event answer ∷ more) view owned are answered =
    let here : IsAt view.start (view.seen ++ event ∷ []) (length view.seen) event answer =
    record { before = view.seen; after = []; log_is = refl; place_is = refl; answer_is = answered.1 } in
    let all = at-push view.start (view.seen ++ event ∷ []) view.own owned (length view.seen) event answer (all-more view.start view.seen (event ∷ []) view.own owned are) here in
    subst (λ (o : List Seen). AreAt (with_seen more (with_own event view)).start (with_seen more (with_own event view)).seen (with_seen more (with_own event view)).own o)
    (append_assoc owned (Own event answer ∷ []) (own_in more))
    (seen-at more (with_own event view) (owned ++ Own event answer ∷ []) all (subst (λ (s : State). AreAnswered s more) (sym (replay-append view.start view.seen (event ∷ []))) answered.2))
