-- What a window and a service keep besides what contracts see: the cost of the stored events, whether one may have hidden a secret, and
-- the room for those that are sure to come.
use Rattle.std.specs.Prelude.{◌≡◌, ◌+◌, ◌-◌, ◌≤◌, ℕ, Bool, true, false, min, List, length, Vec, vec_len, vec_capacity, Option, Some, None}
use Rattle.std.specs.List.{list_any}
use Rattle.std.specs.declared.alloc.Global.{Global}
use Rattle.service_machine.specs.service_events.specs.declared.event.Event.{Event}
use Rattle.service_machine.specs.service_tables.specs.State.{State}
use Rattle.service_machine.specs.declared.machine.Machine.{Machine}
use Rattle.service_machine.specs.Rows.{rows_of, disk_of}
use Rattle.service_machine.specs.service_events.specs.Replay.{cost}
use Rattle.service_history.specs.History.{History, ServiceState, IsHistory}
use Rattle.service_history.specs.Limits.{most_counted}
use Rattle.service_history.specs.Room.{room, enough}
use Rattle.service_history.specs.Windows.{Window, total, is_due, may_hide, begun}

-- a window, and for how many further events there is room in it
pub record Held : Type 0 where
  pub window : Window
  pub spare : ℕ

-- the window of an era, a base and stored events
abbrev pub held_of : ℕ → State → Vec Event Global → Held
held_of era base events = record {
  window = record { era = era; base = base; events = events.items };
  spare = vec_capacity events - vec_len events;
}

-- the cost is that of the events, it is known whether one may have hidden a secret, and they are counted
pub record AreStored (era : ℕ) (events : List Event) (counted : ℕ) (locks : Bool) : Type 0 where
  pub costs : counted ≡ min (cost events) 18446744073709551615
  pub locked : locks ≡ list_any may_hide events
  pub few : era + length events ≤ most_counted

-- the window after one, as it begins from this state, with room for an event and all that are sure to come after it
pub record IsNext (window : Window) (state : State) (next : Held) : Type 0 where
  pub begins : next.window ≡ begun (total window) state
  pub room : enough ≤ next.spare

-- What was prepared for an event: the next window if a cut is due, and otherwise room in this one.
abbrev pub IsReady : Window → State → ℕ → Option Held → Type 0
IsReady window state spare None = (is_due window ≡ false) × (enough ≤ spare)
IsReady window state spare (Some next) = (is_due window ≡ true) × IsNext window state next

-- the window in which an event is stored: the one that was prepared, if one was
abbrev pub chosen : Held → Option Held → Held
chosen held None = held
chosen held (Some next) = next

-- the history of a service in this state and this window
abbrev pub in_window : State → Window → History
in_window state window = record { state = state; window = window }

-- the service of a machine and a window
abbrev pub service_of : {F S : Type 0} → Machine F S → Held → ServiceState F S
service_of machine held = record { history = in_window (rows_of machine) held.window; disk = disk_of machine }

-- a service in this state and this window keeps a history, and room for the events that are sure to come
pub record IsKept (state : State) (held : Held) : Type 0 where
  pub history : IsHistory (in_window state held.window)
  pub fits : room state.connections.rows ≤ held.spare
