-- The service is what the run's history leads to, and still is after one more event.
use Rattle.std.proofs.Common.{◌≡◌, ℕ, zero, suc, ◌+◌, ◌-◌, ◌≤◌, Bool, true, false, List, [], ◌∷◌, ◌++◌, length, take, drop, refl, sym, ap, ◌∙◌, subst, arith, length-drop, take-append-drop}
use Rattle.std.proofs.lemmas.List.{length_push}
use Rattle.service_desk.specs.service_tables.specs.State.{State}
use Rattle.service_desk.specs.service_events.specs.declared.event.Event.{Event}
use Rattle.service_desk.specs.service_events.specs.Step.{step, Fits}
use Rattle.service_desk.specs.service_events.specs.Replay.{replay, Legal}
use Rattle.service_desk.specs.service_events.proofs.ReplayLemmas.{replay-append, Legal-append}
use Rattle.service_history.specs.History.{History, IsHistory, cut, cut_where_due, with_event}
use Rattle.service_history.specs.Windows.{total, is_due}
use Rattle.service_desk.specs.service_events.proofs.SoundLemmas.{sound_replay}
use Rattle.shared_service.specs.Standing.{Stands, newest}

-- a cut keeps what is true of every service
history-cut : (service : History) → IsHistory service → IsHistory (cut service)
history-cut service kept = record {
  sound = sound_replay service.window.base service.window.events kept.sound kept.legal;
  legal = tt;
  replayed = kept.replayed;
  counted = let few = kept.counted in omega (arith, few);
}

take-all : (events : List Event) → take (length events) events ≡ events
take-all [] = refl
take-all (event ∷ events) = ap (λ l. event ∷ l) (take-all events)

drop-all : (events : List Event) → drop (length events) events ≡ []
drop-all [] = refl
drop-all (event ∷ events) = drop-all events

take-push : (n : ℕ) (events : List Event) (event : Event) → n ≤ length events → take n (events ++ event ∷ []) ≡ take n events
take-push zero events event few = refl
take-push (suc n) [] event few = absurd (omega arith)
take-push (suc n) (first ∷ events) event few = ap (λ l. first ∷ l) (take-push n events event (omega arith))

drop-push : (n : ℕ) (events : List Event) (event : Event) → n ≤ length events → drop n (events ++ event ∷ []) ≡ drop n events ++ event ∷ []
drop-push zero events event few = refl
drop-push (suc n) [] event few = absurd (omega arith)
drop-push (suc n) (first ∷ events) event few = drop-push n events event (omega arith)

-- the last of some events and one more is that one
pub newest-push : (events : List Event) (event : Event) → newest (events ++ event ∷ []) ≡ event ∷ []
newest-push [] event = refl
newest-push (first ∷ []) event = refl
newest-push (first ∷ next ∷ events) event = newest-push (next ∷ events) event

-- the rest of a legal list is legal from the state that the beginning leads to
pub Legal-behind : (state : State) (events more : List Event) → Legal state (events ++ more) → Legal (replay state events) more
Legal-behind state [] more legal = legal
Legal-behind state (event ∷ events) more legal = Legal-behind (step state event) events more legal.1

module _ (start : State) (before : ℕ) (log : List Event) where
  -- the service's state is what the whole history leads to
  pub state-stands : (service : History) → Stands service start before log → service.state ≡ replay start log
  state-stands service stands =
      stands.kept.replayed
      ∙ (λ i. replay (stands.base i) (stands.events i))
      ∙ sym (replay-append start (take stands.cut log) (drop stands.cut log))
      ∙ ap (replay start) (take-append-drop stands.cut log)

  -- and the run has had this many events
  pub total-stands : (service : History) → Stands service start before log → total service.window ≡ before + length log
  total-stands service stands =
      let long : length service.window.events ≡ length log - stands.cut = ap length stands.events ∙ length-drop stands.cut log in
      omega (arith, long, stands.era, stands.few)

  -- a cut doesn't change that
  pub stands-cut : (service : History) → Stands service start before log → Stands (cut service) start before log
  stands-cut service stands = record {
    kept = history-cut service stands.kept;
    legal = stands.legal;
    cut = length log;
    few = omega arith;
    era = total-stands service stands;
    base = sym stands.kept.replayed ∙ (state-stands service stands ∙ ap (replay start) (sym (take-all log)));
    events = sym (drop-all log);
  }

  -- one more event
  pub stands-with : (service : History) (event : Event) → Stands service start before log → Fits service.state event → IsHistory (with_event event service) → Stands (with_event event service) start before (log ++ event ∷ [])
  stands-with service event stands fits kept = record {
    kept = kept;
    legal = Legal-append start log (event ∷ []) stands.legal (subst (λ (s : State). Fits s event) (state-stands service stands) fits, tt);
    cut = stands.cut;
    few = let long = length_push log event in omega (arith, long, stands.few);
    era = stands.era;
    base = stands.base ∙ ap (replay start) (sym (take-push stands.cut log event stands.few));
    events = ap (λ (l : List Event). l ++ event ∷ []) stands.events ∙ sym (drop-push stands.cut log event stands.few);
  }

  -- one more event, after a cut if one was due
  pub stands-due : (service new : History) (event : Event) → Stands service start before log → Fits service.state event → new ≡ with_event event (cut_where_due service) → IsHistory new
      → Stands new start before (log ++ event ∷ [])
  stands-due service new event stands fits is kept =
      let pass : (b : Bool) → is_due service.window ≡ b → Stands new start before (log ++ event ∷ []) =
      elim [
        | true ↦ λ due. let same : new ≡ with_event event (cut service) = rw due at is in subst (λ (h : History). Stands h start before (log ++ event ∷ [])) (sym same)
            (stands-with (cut service) event (stands-cut service stands) fits (subst IsHistory same kept))
        | false ↦ λ due. let same : new ≡ with_event event service = rw due at is in subst (λ (h : History). Stands h start before (log ++ event ∷ [])) (sym same)
            (stands-with service event stands fits (subst IsHistory same kept))
      ] in
      pass (is_due service.window) refl

-- the last event of a service that recorded one
pub newest-due : (service new : History) (event : Event) → new ≡ with_event event (cut_where_due service) → newest new.window.events ≡ event ∷ []
newest-due service new event is = ap (λ (h : History). newest h.window.events) is ∙ newest-push (cut_where_due service).window.events event
