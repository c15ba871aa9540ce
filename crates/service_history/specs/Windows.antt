-- A run's history in windows. A window is an era, the number of the run's events before it; a base, the state that
-- these led to; and the events since then. A cut ends one window, and the next one follows.
use Rattle.std.specs.Prelude.{◌≡◌, ℕ, ◌+◌, ◌<◌, Bool, true, false, ◌||◌, nat_le, nat_lt, List, [], ◌∷◌, ◌++◌, length, Result, Ok}
use Rattle.std.specs.List.{flat_map, list_any}
use Rattle.service_machine.specs.secret_calls.specs.declared.call.Call.{Call}
use Rattle.service_machine.specs.secret_calls.specs.declared.call.Call.TheVariants as call
use Rattle.service_machine.specs.secret_calls.specs.declared.call.CallFault.{CallFault}
use Rattle.service_machine.specs.service_tables.specs.State.{State}
use Rattle.service_machine.specs.service_events.specs.declared.event.Event.{Event}
use Rattle.service_machine.specs.service_events.specs.declared.event.Event.TheVariants as event
use Rattle.service_machine.specs.service_events.specs.Replay.{replay, Legal, cost}
use Rattle.service_history.specs.Limits.{most_stored, most_cost}

-- a window
pub record Window : Type 0 where
  pub era : ℕ
  pub base : State
  pub events : List Event

-- how many events the run has had
abbrev pub total : Window → ℕ
total window = window.era + length window.events

-- whether a call is Lock (Secret Service API draft 0.2, interface Service)
abbrev pub is_lock_call : Result Call CallFault → Bool
is_lock_call (Ok (call.Lock objects)) = true
is_lock_call _ = false

-- whether a call brings a password
abbrev pub is_answer_call : Result Call CallFault → Bool
is_answer_call (Ok (call.Answer prompt round password)) = true
is_answer_call _ = false

-- whether an event may be the last one in which a secret is there: a call of Lock, or a request that asked the disk, which replaced or
-- removed what a file had, or may have; or whether a password is there: an answer, and a key with what it was derived from
abbrev pub may_hide : Event → Bool
may_hide (event.Arrive came) = is_lock_call came.arrival.request.call || (is_answer_call came.arrival.request.call || nat_lt 0 (length came.fates))
may_hide (event.Derived came) = true
may_hide _ = false

-- a cut is due: the events are many, or cost much, or one may have hidden a secret or has a password, so that no event keeps a secret that
-- was locked, replaced or removed, and a password stays until the next event alone
abbrev pub is_due : Window → Bool
is_due window = nat_le most_stored (length window.events) || (nat_le most_cost (cost window.events) || list_any may_hide window.events)

-- the window with one more event
abbrev pub stored : Event → Window → Window
stored event window = record window { events = window.events ++ event ∷ [] }

-- a window as it begins
abbrev pub begun : ℕ → State → Window
begun era base = record { era = era; base = base; events = [] }

-- the first window of a run from this state, as it begins
abbrev pub first_window : State → Window
first_window start = begun 0 start

-- the window after one, as it begins
abbrev pub next_window : Window → Window
next_window window = begun (total window) (replay window.base window.events)

-- the window begins as that one does, and its events are legal
pub record Begins (start window : Window) : Type 0 where
  pub era : window.era ≡ start.era
  pub base : window.base ≡ start.base
  pub legal : Legal window.base window.events

-- The windows follow one another, and the first begins as that one does. Each that is followed by another one has an
-- event.
abbrev pub AreInRow : Window → List Window → Type 0
AreInRow start [] = Unit {0}
AreInRow start (window ∷ []) = Begins start window
AreInRow start (window ∷ next ∷ windows) = Begins start window × (0 < length window.events) × AreInRow (next_window window) (next ∷ windows)

-- the windows of a run from this state
abbrev pub AreWindows : State → List Window → Type 0
AreWindows start windows = AreInRow (first_window start) windows

-- the history of a run: the events of its windows, one after the other
abbrev pub history_of : List Window → List Event
history_of windows = flat_map (λ window. window.events) windows

-- the window after the last of them, as it begins
abbrev pub window_behind : Window → List Window → Window
window_behind start [] = start
window_behind start (window ∷ windows) = window_behind (next_window window) windows
