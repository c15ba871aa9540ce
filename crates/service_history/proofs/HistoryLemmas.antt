-- One more event of a history, and a cut.
use Rattle.std.proofs.Common.{◌≡◌, ◌+◌, ◌≤◌, Bool, IsTrue, List, [], ◌∷◌, Option, ap, ◌∙◌, subst, sym, arith}
use Rattle.std.proofs.lemmas.List.{length_push}
use Rattle.service_machine.specs.service_tables.specs.State.{State}
use Rattle.service_machine.specs.service_tables.specs.declared.fate.Fate.{Fate}
use Rattle.service_machine.specs.secret_calls.specs.declared.work.Work.{Work}
use Rattle.service_machine.specs.service_events.specs.declared.event.Arrival.{Arrival}
use Rattle.service_machine.specs.service_events.specs.declared.event.BroughtKey.{BroughtKey}
use Rattle.service_machine.specs.service_events.specs.declared.event.Event.{Event}
use Rattle.service_machine.specs.service_events.specs.declared.event.Event.TheVariants as event
use Rattle.service_machine.specs.service_events.specs.declared.event.Incoming.TheVariants as incoming
use Rattle.service_machine.specs.service_events.specs.declared.event.Output.TheVariants as output
use Rattle.service_machine.specs.service_events.specs.Fates.{IsFaultless, with_fates}
use Rattle.service_machine.specs.service_events.specs.Incoming.{Records}
use Rattle.service_machine.specs.service_events.specs.Step.{step, output_of, Fits}
use Rattle.service_machine.specs.service_tables.specs.Sound.{IsSound}
use Rattle.service_machine.specs.service_events.proofs.ReplayLemmas.{replay-append, Legal-append}
use Rattle.service_machine.specs.service_events.proofs.SoundLemmas.{sound_step, sound_replay}
use Rattle.service_history.specs.Limits.{most_counted}
use Rattle.service_history.specs.History.{History, IsHistory, Stores, StoresKey, StoresRequest, cut, cut_where_due, with_event}
use Rattle.service_history.specs.Windows.{total}
use Rattle.service_history.specs.Room.{room}
use Rattle.service_history.proofs.RoomLemmas.{room-few}

-- the state of a history is sound
pub history-sound : (history : History) → IsHistory history → IsSound history.state
history-sound history is = rw is.replayed (sound_replay history.window.base history.window.events is.sound is.legal)

-- what sure events take after an event
pub room-behind : (state : State) (event : Event) → IsSound state → Fits state event → room (step state event).connections.rows ≤ 768
room-behind state event sound fits =
    omega (arith, room-few (step state event).connections.rows, (sound_step state event sound fits).connections.few)

pub history-push : (history : History) (event : Event) → IsHistory history → Fits history.state event
    → total history.window + 1 + room (step history.state event).connections.rows ≤ most_counted → IsHistory (with_event event history)
history-push history event is fits counted = record {
  sound = is.sound;
  legal = Legal-append history.window.base history.window.events (event ∷ []) is.legal (rw (← is.replayed) fits, tt);
  replayed = ap (λ state. step state event) is.replayed ∙ sym (replay-append history.window.base history.window.events (event ∷ []));
  counted = rw (length_push history.window.events event) (omega (arith, counted));
}

pub history-cut : (history : History) → IsHistory history → IsHistory (cut history)
history-cut history is = record {
  sound = sound_replay history.window.base history.window.events is.sound is.legal;
  legal = tt;
  replayed = is.replayed;
  counted = omega (arith, is.counted);
}

-- ---- a request that was recorded

-- the event is that of a request, with these fates
record IsRequest (arrival : Arrival) (event : Event) : Type 0 where
  pub fates : List Fate
  pub same : event ≡ with_fates arrival fates

request : (arrival : Arrival) (event : Event) → Records (incoming.Arrive arrival) event → IsRequest arrival event
request arrival (event.Connect conn) records = absurd records
request arrival (event.Arrive came) records = record { fates = came.fates; same = λ i. event.Arrive (record { arrival = records i; fates = came.fates }) }
request arrival (event.Derived came) records = absurd records
request arrival (event.Leave conn) records = absurd records
request arrival (event.Take conn) records = absurd records
request arrival (event.Gone conn) records = absurd records

pub requested : (steady : Bool) (stored : Event → Type 0) (old new : History) (arrival : Arrival) (work : Option Work) (event : Event) → Records (incoming.Arrive arrival) event → Fits old.state event
    → new ≡ with_event event (cut_where_due old) → (IsTrue steady → IsFaultless event) → output.Arrived (record { work = work }) ≡ output_of old.state event → stored event
    → StoresRequest steady stored old arrival work new
requested steady stored old new arrival work event records fits appends faultless gives disk =
    let is = request arrival event records in
    let its : Stores old event new = record { fits = fits; appends = appends } in
    record {
      fates = is.fates;
      stores = subst (λ e. Stores old e new) is.same its;
      faultless = λ holds. subst IsFaultless is.same (faultless holds);
      gives = subst (λ e. output.Arrived (record { work = work }) ≡ output_of old.state e) is.same gives;
      disk = subst stored is.same disk;
    }

-- ---- a derived key that was recorded

pub keyed : (steady : Bool) (stored : Event → Type 0) (old new : History) (brought : BroughtKey) (event : Event) → Records (incoming.Derived brought) event → Fits old.state event
    → new ≡ with_event event (cut_where_due old) → (IsTrue steady → IsFaultless event) → stored event → StoresKey steady stored old brought new
keyed steady stored old new brought (event.Connect conn) records fits appends faultless disk = absurd records
keyed steady stored old new brought (event.Arrive came) records fits appends faultless disk = absurd records
keyed steady stored old new brought (event.Derived came) records fits appends faultless disk =
    record { came = came; is = records; stores = record { fits = fits; appends = appends }; faultless = faultless; disk = disk }
keyed steady stored old new brought (event.Leave conn) records fits appends faultless disk = absurd records
keyed steady stored old new brought (event.Take conn) records fits appends faultless disk = absurd records
keyed steady stored old new brought (event.Gone conn) records fits appends faultless disk = absurd records
