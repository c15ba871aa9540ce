-- A call with the turn that records one event and returns Ok, or is refused and records nothing.
use Rattle.std.proofs.Common.{◌≡◌, ℕ, Bool, List, ◌∷◌, [], Option, Some, Result, Err, IfOk, OnOk, OnErr, IfErr, IsErrOf, ◌≢◌, subst}
use Rattle.kr_base.specs.declared.ids.ConnId.{ConnId}
use Rattle.service_desk.specs.secret_calls.specs.declared.taken.Refused.{Refused}
use Rattle.service_desk.specs.secret_calls.specs.declared.taken.Refused.TheVariants as refused
use Rattle.service_desk.specs.secret_calls.specs.declared.work.Work.{Work}
use Rattle.service_desk.specs.service_tables.specs.Limits.{IsSpent}
use Rattle.service_desk.specs.service_events.specs.declared.event.Arrival.{Arrival}
use Rattle.service_desk.specs.service_events.specs.declared.event.BroughtKey.{BroughtKey}
use Rattle.service_desk.specs.service_events.specs.declared.event.Event.{Event}
use Rattle.service_desk.specs.service_events.specs.Fates.{with_fates, is_steady}
use Rattle.service_desk.specs.service_events.specs.Step.{IsMissing}
use Rattle.service_history.specs.History.{History, ServiceState, IsHistory, Stores, StoresKey, StoresRequest}
use Rattle.service_history.specs.Windows.{total}
use Rattle.service_desk.specs.Places.{Place, Looks}
use Rattle.service_desk.specs.Views.{with_others}
use Rattle.service_desk.specs.Calls.{Arrives, Finishes, IsRefusal}
use Rattle.shared_turn.specs.Passes as turn
use Rattle.shared_service.specs.Ends.{IsEnd, IsAsSteady}
use Rattle.shared_service.specs.Passes.{steady_or, home_of, told, spot, view_of, IsIdle}
use Rattle.shared_service.specs.Standing.{Start, Stands, IsLedTo, newest}
use Rattle.shared_service.proofs.Ends.{Became, end-some, done, viewed, stands-view, steady-found, steady-still, event_if, fates_if, key_if, stores-if, stores-key, fits-if, became-if}
use Rattle.shared_service.proofs.Calls.{arrives-if, finishes-if, looks-if, refused-if}

-- why a service refuses a call of this connection, which changes nothing then
pub record IsAnswered {T : Type 0} (conn : ConnId) (service new : History) (result : Result T Refused) : Type 0 where
  pub spent : IsErrOf result refused.EventsSpent → IsSpent (total service.window)
  pub not_spent : result ≢ Err refused.EventsSpent → IsSpent (total service.window) → ⊥
  pub gone : IsErrOf result refused.Gone → IsMissing conn service.state
  pub memory : IsErrOf result refused.OutOfMemory → ¬ (IsMissing conn service.state)
  pub unchanged : OnErr result (new ≡ service)
  pub history : IsHistory new

-- the pass after the call: it is idle and of the same run, and its view shows what was recorded, or why nothing was
pub record HasCalled {T : Type 0} (conn : ConnId) (Records : Place → Place → T → Type 0) (old last : turn.View Start Event) (result : Result T Refused) : Type 0 where
  pub idle : IsIdle last
  pub home : home_of last ≡ home_of old
  pub steady : steady_or last.start ≡ steady_or old.start
  pub recorded : IfOk result (Records (spot conn (home_of old) (steady_or old.start) (view_of old)) (spot conn (home_of old) (steady_or old.start) (view_of last)))
  pub looked : OnErr result (Looks (spot conn (home_of old) (steady_or old.start) (view_of old)) (spot conn (home_of old) (steady_or old.start) (view_of last)))
  pub cause : IfErr result (λ fault. IsRefusal fault (told conn (home_of old) (steady_or old.start) (view_of last)))

-- what may be said when the service has answered: how its turn may end, and what the pass is then
pub record Calls {T : Type 0} (conn : ConnId) (Records : Place → Place → T → Type 0) (old pass : turn.View Start Event) (service new : History) (result : Result T Refused) : Type 0 where
  pub ends : (count : ℕ) → count ≡ total service.window → IsEnd new count pass
  pub called : (count : ℕ) (last : turn.View Start Event) → count ≡ total service.window → (total new.window ≡ count → last ≡ turn.outside pass)
      → ((one : Event) → (total new.window ≡ count → ⊥) → newest new.window.events ≡ one ∷ [] → last ≡ turn.recorded one pass) → HasCalled conn Records old last result

module _ {F S : Type 0} (folder_steady : F → Bool) (slot_steady : S → Bool) (old pass : turn.View Start Event) (found new : ServiceState F S) (sleepers : List ConnId) (due : Bool) (idle : IsIdle old) (between : List Event)
    (is : pass ≡ turn.inside between old) (led : (start : Start) → old.start ≡ Some start → IsLedTo folder_steady slot_steady found sleepers due start old.before pass.seen) where
  abbrev service : History
  service = found.history

  stands : (start : Start) → old.start ≡ Some start → Stands service start.state old.before pass.seen
  stands start at = (led start at).history

  -- the disk that was found is as steady as that of the run
  same : is_steady folder_steady slot_steady found.disk ≡ steady_or old.start
  same = steady-found old pass between is idle (is_steady folder_steady slot_steady found.disk) (λ start at. (led start at).steady)

  -- and so it stays
  pub as-steady : is_steady folder_steady slot_steady new.disk ≡ is_steady folder_steady slot_steady found.disk → IsAsSteady (is_steady folder_steady slot_steady new.disk) pass
  as-steady = steady-still old pass between is idle (is_steady folder_steady slot_steady found.disk) (λ start at. (led start at).steady) (is_steady folder_steady slot_steady new.disk)

  -- what the view shows is told by the event of Ok
  calls : {T : Type 0} (conn : ConnId) (Records : Place → Place → T → Type 0) (event : T → Event) (result : Result T Refused) → IfOk result (λ value. Stores service (event value) new.history)
      → IsAnswered conn service new.history result
      → ((last : turn.View Start Event) → view_of last ≡ viewed (event_if event result) (with_others between (view_of old))
      → IfOk result (Records (spot conn (home_of old) (steady_or old.start) (view_of old)) (spot conn (home_of old) (steady_or old.start) (view_of last))))
      → Calls conn Records old pass service new.history result
  calls conn Records event result stores answered shows =
      let became : Became service (event_if event result) new.history = became-if event service new.history result stores answered.unchanged answered.history in
      let stood = stands-view old pass between is idle service stands in
      record {
        ends = λ count counted. end-some old pass between is idle service stands (event_if event result) new.history count became counted;
        called = λ count last counted none one.
            let end = done old pass between is idle service stands (event_if event result) new.history count last (fits-if event service new.history result stores) became counted none one in
            record {
              idle = end.0;
              home = end.1;
              steady = end.3;
              recorded = shows last end.2;
              looked = looks-if conn (home_of old) (steady_or old.start) (view_of old) (view_of last) between service stood event result end.2;
              cause = refused-if conn (home_of old) (steady_or old.start) (view_of old) (view_of last) between service stood event result answered.spent answered.not_spent answered.gone answered.memory end.2;
            };
      }

  module _ (stored : Event → Type 0) where
    -- a request
    pub arrive-calls : (arrival : Arrival) (result : Result (Option Work) Refused) → IfOk result (λ work. StoresRequest (is_steady folder_steady slot_steady found.disk) stored service arrival work new.history)
        → IsAnswered arrival.conn service new.history result → Calls arrival.conn (λ before after work. Arrives before after arrival work) old pass service new.history result
    arrive-calls arrival result stores answered =
        let stores_it : IfOk result (λ work. StoresRequest (steady_or old.start) stored service arrival work new.history) =
        subst (λ (b : Bool). IfOk result (λ work. StoresRequest b stored service arrival work new.history)) same stores in
        calls arrival.conn (λ before after work. Arrives before after arrival work) (λ _. with_fates arrival (fates_if (steady_or old.start) stored service arrival new.history result stores_it)) result
        (stores-if (steady_or old.start) stored service arrival new.history result stores_it) answered
        (λ last shown. arrives-if arrival.conn (home_of old) (steady_or old.start) (view_of old) (view_of last) between service (stands-view old pass between is idle service stands) stored arrival new.history result stores_it answered.not_spent shown)

    -- a derived key
    pub finish-calls : (brought : BroughtKey) (result : Result (Unit {0}) Refused) → OnOk result (StoresKey (is_steady folder_steady slot_steady found.disk) stored service brought new.history)
        → IsAnswered brought.conn service new.history result → Calls brought.conn (λ before after _. Finishes before after brought) old pass service new.history result
    finish-calls brought result stores answered =
        let stores_it : OnOk result (StoresKey (steady_or old.start) stored service brought new.history) =
        subst (λ (b : Bool). OnOk result (StoresKey b stored service brought new.history)) same stores in
        calls brought.conn (λ before after _. Finishes before after brought) (λ _. key_if (steady_or old.start) stored service brought new.history result stores_it) result
        (stores-key (steady_or old.start) stored service brought new.history result stores_it) answered
        (λ last shown. finishes-if brought.conn (home_of old) (steady_or old.start) (view_of old) (view_of last) between service (stands-view old pass between is idle service stands) stored brought new.history result stores_it answered.not_spent shown)
