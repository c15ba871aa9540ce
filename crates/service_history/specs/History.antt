-- The service and its history, as contracts see it: the state, and the window whose events led to it.
use Rattle.std.specs.Prelude.{◌≡◌, ℕ, ◌+◌, ◌≤◌, Bool, ◌&&◌, not, if◌then◌else◌, IsTrue, List, Option, Some, None}
use Rattle.kr_base.specs.declared.ids.ConnId.{ConnId}
use Rattle.kr_outside.specs.RenameDisk.{Image}
use Rattle.service_machine.specs.secret_calls.specs.declared.work.Work.{Work}
use Rattle.service_machine.specs.secret_calls.specs.declared.taken.Taken.{Taken}
use Rattle.service_machine.specs.secret_calls.specs.declared.taken.Taken.TheVariants as taken
use Rattle.service_machine.specs.service_tables.specs.Disk.{DiskState}
use Rattle.service_machine.specs.service_tables.specs.State.{State}
use Rattle.service_machine.specs.service_tables.specs.signal_fanout.specs.declared.rows.DeskRow.{DeskRow}
use Rattle.service_machine.specs.service_events.specs.declared.event.Arrival.{Arrival}
use Rattle.service_machine.specs.service_tables.specs.declared.fate.Fate.{Fate}
use Rattle.service_machine.specs.service_events.specs.declared.event.Incoming.{Incoming}
use Rattle.service_machine.specs.service_events.specs.declared.event.Incoming.TheVariants as incoming
use Rattle.service_machine.specs.service_events.specs.declared.event.Event.{Event}
use Rattle.service_machine.specs.service_events.specs.declared.event.Event.TheVariants as event
use Rattle.service_machine.specs.service_events.specs.declared.event.BroughtKey.{BroughtKey}
use Rattle.service_machine.specs.service_events.specs.declared.event.Derivation.{Derivation}
use Rattle.service_machine.specs.service_events.specs.declared.event.Output.{Output}
use Rattle.service_machine.specs.service_events.specs.declared.event.Output.TheVariants as output
use Rattle.service_machine.specs.service_tables.specs.Connections.{waiting_for, desk_of}
use Rattle.service_machine.specs.service_events.specs.Fates.{with_fates, AreFaultless, IsFaultless}
use Rattle.service_machine.specs.service_events.specs.Stored.{StoresEvent}
use Rattle.service_machine.specs.service_events.specs.Incoming.{IsBroughtBy, Records}
use Rattle.service_machine.specs.service_events.specs.Step.{step, output_of, Fits}
use Rattle.service_machine.specs.service_events.specs.Replay.{replay, Legal}
use Rattle.service_machine.specs.service_tables.specs.Sound.{IsSound}
use Rattle.service_history.specs.Limits.{most_counted}
use Rattle.service_history.specs.Room.{room}
use Rattle.service_history.specs.Windows.{Window, total, is_due, stored, first_window, next_window}

-- the state, and the window that led to it
pub record History : Type 0 where
  pub state : State
  pub window : Window

-- the service as contracts see it: its history, and beside it its folder with the slots that were made of it
pub record ServiceState (F S : Type 0) : Type 0 where
  pub history : History
  pub disk : DiskState F S

-- the history of a service as it starts in this state
abbrev pub opened_history : State → History
opened_history start = record { state = start; window = first_window start }

-- What every service keeps: its base is sound, its events are legal from there and lead to its state, and its events
-- are counted, those that are sure to come included.
pub record IsHistory (history : History) : Type 0 where
  pub sound : IsSound history.window.base
  pub legal : Legal history.window.base history.window.events
  pub replayed : history.state ≡ replay history.window.base history.window.events
  pub counted : total history.window + room history.state.connections.rows ≤ most_counted

-- a cut ends the window, and the next one begins
abbrev pub cut : History → History
cut history = record history { window = next_window history.window }

-- a cut, if one is due
abbrev pub cut_where_due : History → History
cut_where_due history = if is_due history.window then cut history else history

-- one more event
abbrev pub with_event : Event → History → History
with_event event history = record { state = step history.state event; window = stored event history.window }

-- This event is recorded, after a cut if one is due.
pub record Stores (old : History) (event : Event) (new : History) : Type 0 where
  pub fits : Fits old.state event
  pub appends : new ≡ with_event event (cut_where_due old)

-- What an event does to the disk of a service: each storing that it asks for is one of the disk, and nothing else changes.
pub record StoresOn {F S : Type 0} (folder_honest folder_steady : F → Bool) (folder_faults : F → ℕ) (images : F → List ℕ → Image)
    (folder_leaves : F → List ℕ → Image → Type 0) (names_made : F → List (List ℕ)) (is_honest is_steady : S → Bool) (faults moment : S → ℕ)
    (left_since : S → ℕ → Image → Type 0) (may_leave : S → Image → Type 0) (old new : ServiceState F S) (event : Event) : Type 0 where
  pub did : StoresEvent folder_honest folder_steady folder_faults images folder_leaves names_made is_honest is_steady faults moment left_since may_leave event old.history.state old.disk new.disk

-- This request is recorded, after a cut if one is due, with how each storing ended, of which none is a fault if the disk is steady; it
-- gives this work; and this is what they did to the disk.
pub record StoresRequest (steady : Bool) (stored : Event → Type 0) (old : History) (arrival : Arrival) (work : Option Work) (new : History) : Type 0 where
  pub fates : List Fate
  pub stores : Stores old (with_fates arrival fates) new
  pub faultless : IsTrue steady → AreFaultless fates
  pub gives : output.Arrived (record { work = work }) ≡ output_of old.state (with_fates arrival fates)
  pub disk : stored (with_fates arrival fates)

-- The derived key that came is recorded, after a cut if one is due, with how what it asked for ended, of which none is a fault if the disk
-- is steady; and this is what that did to the disk.
pub record StoresKey (steady : Bool) (stored : Event → Type 0) (old : History) (brought : BroughtKey) (new : History) : Type 0 where
  pub came : Derivation
  pub is : IsBroughtBy brought came
  pub stores : Stores old (event.Derived came) new
  pub faultless : IsTrue steady → AreFaultless came.fates
  pub disk : stored (event.Derived came)

-- The event that came is recorded, after a cut if one is due, and answered as the step answers it; it has no fault if the disk is
-- steady.
pub record IsRecorded (steady : Bool) (old : History) (came : Incoming) (answer : Output) (new : History) : Type 0 where
  pub event : Event
  pub records : Records came event
  pub fits : Fits old.state event
  pub faultless : IsTrue steady → IsFaultless event
  pub answers : answer ≡ output_of old.state event
  pub appends : new ≡ with_event event (cut_where_due old)

-- the same, and this is what it did to the disk
pub record RecordsOn (steady : Bool) (stored : Event → Type 0) (old : History) (came : Incoming) (answer : Output) (new : History) : Type 0 where
  pub recorded : IsRecorded steady old came answer new
  pub disk : stored recorded.event

-- the same without a cut
pub record IsAppended (old : History) (came : Incoming) (answer : Output) (new : History) : Type 0 where
  pub event : Event
  pub records : Records came event
  pub fits : Fits old.state event
  pub answers : answer ≡ output_of old.state event
  pub appends : new ≡ with_event event old

-- the events that `event` takes: a connection joins, asks for something, or brings a derived key
abbrev pub IsAsked : Incoming → Type 0
IsAsked incoming.Connect = Unit {0}
IsAsked (incoming.Arrive arrival) = Unit {0}
IsAsked (incoming.Derived brought) = Unit {0}
IsAsked _ = ⊥

-- what a connection that takes is given, by its status
abbrev pub given_for : ConnId → State → Option DeskRow → Taken
given_for conn state None = taken.Missing
given_for conn state (Some desk) =
    if desk.waits then taken.Outs (waiting_for conn state.connections.rows)
    else (if desk.overrun then taken.Overrun
    else (if desk.leaving then taken.Closed else taken.Empty))

-- what is recorded of it: that it takes, or, if it is closed, that it is gone
abbrev pub taken_by : ConnId → Option DeskRow → History → History
taken_by conn None history = history
taken_by conn (Some desk) history =
    if desk.waits then with_event (event.Take conn) history
    else (if desk.leaving && not desk.overrun then with_event (event.Gone conn) history else history)

-- what is recorded of a connection that leaves: nothing if it isn't there or is leaving
abbrev pub left_by : ConnId → Option DeskRow → History → History
left_by conn None history = history
left_by conn (Some desk) history = if desk.leaving then history else with_event (event.Leave conn) history

-- what is recorded of a connection that is gone: nothing if it isn't there
abbrev pub gone_by : ConnId → Option DeskRow → History → History
gone_by conn None history = history
gone_by conn (Some desk) history = with_event (event.Gone conn) history

-- the status of a connection in the history's state
abbrev pub told : ConnId → History → Option DeskRow
told conn history = desk_of conn history.state.connections.rows
