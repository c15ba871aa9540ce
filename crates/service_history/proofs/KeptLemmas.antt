-- What a service keeps, at its start and after one more event.
use Rattle.std.proofs.Common.{◌≡◌, ◌+◌, ◌<◌, ◌≤◌, true, false, cond, Option, Some, None, refl, ap, ◌∙◌, sym, subst, arith}
use Rattle.kr_base.specs.declared.ids.ConnId.{ConnId}
use Rattle.service_machine.specs.service_events.specs.declared.event.Event.{Event}
use Rattle.service_machine.specs.service_events.specs.declared.event.Event.TheVariants as event
use Rattle.service_machine.specs.service_tables.specs.signal_fanout.specs.declared.rows.DeskRow.{DeskRow}
use Rattle.service_machine.specs.service_tables.specs.State.{State}
use Rattle.service_machine.specs.service_tables.specs.Connections.{left, emptied, desk_of}
use Rattle.service_machine.specs.service_tables.specs.Limits.{most_events}
use Rattle.service_machine.specs.service_tables.specs.Opened.{IsOpened, contents_of}
use Rattle.service_machine.specs.service_tables.specs.Sound.{AreSoundContents}
use Rattle.service_machine.specs.service_events.specs.Step.{step, Fits}
use Rattle.service_machine.specs.service_tables.proofs.FitLemmas.{has-told}
use Rattle.service_machine.specs.service_events.proofs.SoundLemmas.{sound_start}
use Rattle.service_history.specs.Limits.{most_counted}
use Rattle.service_history.specs.History.{IsHistory, cut, cut_where_due, with_event}
use Rattle.service_history.specs.Inside.{Held, IsReady, chosen, in_window, IsKept}
use Rattle.service_history.specs.Room.{room}
use Rattle.service_history.specs.Windows.{Window, total, stored, begun, next_window}
use Rattle.service_history.proofs.RoomLemmas.{room-changed_one, room-left_one, room-emptied_one, room-without_one}
use Rattle.service_history.proofs.HistoryLemmas.{history-sound, room-behind, history-push, history-cut}

-- the service as it starts, in the window that begins there
pub kept-first : (state : State) (held : Held) → IsOpened state → AreSoundContents (contents_of state) → held.window ≡ begun 0 state → IsKept state held
kept-first state held start sound begins = record {
  history = subst (λ (w : Window). IsHistory (in_window state w)) (sym begins)
      (subst (λ (s : State). IsHistory (in_window s (begun 0 s))) (sym start)
      record { sound = sound_start (contents_of state) sound; legal = tt; replayed = refl; counted = omega arith });
  fits = subst (λ (s : State). room s.connections.rows ≤ held.spare) (sym start) (omega arith);
}

-- the same window with more room
pub kept-same : (state : State) (old new : Held) → IsKept state old → new.window ≡ old.window → old.spare ≤ new.spare → IsKept state new
kept-same state old new kept same more = record {
  history = subst (λ (w : Window). IsHistory (in_window state w)) (sym same) kept.history;
  fits = omega (arith, kept.fits, more);
}

-- an event that is stored
kept-push : (state : State) (old new : Held) (event : Event) → IsHistory (in_window state old.window) → Fits state event
    → total old.window + 1 + room (step state event).connections.rows ≤ most_counted → room (step state event).connections.rows + 1 ≤ old.spare
    → new.window ≡ stored event old.window → old.spare ≤ new.spare + 1 → IsKept (step state event) new
kept-push state old new event history fits counted space is spare = record {
  history = subst (λ (w : Window). IsHistory (in_window (step state event) w)) (sym is) (history-push (in_window state old.window) event history fits counted);
  fits = omega (arith, space, spare);
}

-- ---- events that are sure to come

-- there is room for the event, and what is kept after it
pub record IsSure (state : State) (old : Held) (event : Event) : Type 0 where
  pub fits : Fits state event
  pub room : 0 < old.spare
  pub counted : total old.window < most_counted
  pub kept : (new : Held) → new.window ≡ stored event old.window → old.spare ≤ new.spare + 1 → IsKept (step state event) new

sure : (state : State) (held : Held) (event : Event) → IsKept state held → Fits state event → room (step state event).connections.rows + 1 ≤ room state.connections.rows → IsSure state held event
sure state held event kept fits less = record {
  fits = fits;
  room = omega (arith, less, kept.fits);
  counted = omega (arith, less, kept.history.counted);
  kept = λ new is spare. kept-push state held new event kept.history fits (omega (arith, less, kept.history.counted)) (omega (arith, less, kept.fits)) is spare;
}

-- a connection that is there and isn't leaving leaves
pub sure-leave : (conn : ConnId) (desk : DeskRow) (state : State) (held : Held) → IsKept state held → Some desk ≡ desk_of conn state.connections.rows → desk.leaving ≡ false → IsSure state held (event.Leave conn)
sure-leave conn desk state held kept told stays =
    let fits : Fits state (event.Leave conn) = rw (← told) stays in
    sure state held (event.Leave conn) kept fits (room-changed_one (λ desk. desk.leaving ≡ false) conn left (λ row. omega arith) room-left_one state.connections.rows fits)

-- one for which something waits takes it
pub sure-take : (conn : ConnId) (desk : DeskRow) (state : State) (held : Held) → IsKept state held → Some desk ≡ desk_of conn state.connections.rows → desk.waits ≡ true → IsSure state held (event.Take conn)
sure-take conn desk state held kept told some =
    let fits : Fits state (event.Take conn) = rw (← told) some in
    sure state held (event.Take conn) kept fits (room-changed_one (λ desk. desk.waits ≡ true) conn emptied (λ row. omega arith) room-emptied_one state.connections.rows fits)

-- one that is there is gone
pub sure-gone : (conn : ConnId) (desk : DeskRow) (state : State) (held : Held) → IsKept state held → Some desk ≡ desk_of conn state.connections.rows → IsSure state held (event.Gone conn)
sure-gone conn desk state held kept told =
    let fits = has-told conn state.connections.rows desk told in
    sure state held (event.Gone conn) kept fits (room-without_one conn state.connections.rows fits)

-- ---- an event for which room was prepared

-- what is kept after it, in this window or in the next
pub kept-event : (state : State) (window : Window) (held : Held) (next : Option Held) (event : Event) (new : Held) → IsHistory (in_window state window) → held.window ≡ window
    → IsReady window state held.spare next → total window < most_events → Fits state event → new.window ≡ stored event (chosen held next).window → (chosen held next).spare ≤ new.spare + 1
    → IsKept (step state event) new
kept-event state window held None event new history same ready left fits stores less =
    let behind = room-behind state event (history-sound (in_window state window) history) fits in
    let begins : IsHistory (in_window state held.window) = subst (λ (w : Window). IsHistory (in_window state w)) (sym same) history in
    kept-push state held new event begins fits (omega (arith, ap total same, left, behind)) (omega (arith, ready.1, behind)) stores less
kept-event state window held (Some next) event new history same ready left fits stores less =
    let behind = room-behind state event (history-sound (in_window state window) history) fits in
    let cuts : next.window ≡ next_window window = ready.1.begins ∙ ap (begun (total window)) history.replayed in
    let begins : IsHistory (in_window state next.window) = subst (λ (w : Window). IsHistory (in_window state w)) (sym cuts) (history-cut (in_window state window) history) in
    kept-push state next new event begins fits (omega (arith, ap total ready.1.begins, left, behind)) (omega (arith, ready.1.room, behind)) stores less

-- it is appended, after a cut if one is due
pub appended : (state after : State) (window : Window) (held : Held) (next : Option Held) (event : Event) (new : Held) → IsHistory (in_window state window) → held.window ≡ window
    → IsReady window state held.spare next → after ≡ step state event → new.window ≡ stored event (chosen held next).window
    → in_window after new.window ≡ with_event event (cut_where_due (in_window state window))
appended state after window held None event new history same ready stepped stores =
    let goes_on : cut_where_due (in_window state window) ≡ in_window state window = ap (λ due. cond due (cut (in_window state window)) (in_window state window)) ready.0 in
    let its : new.window ≡ stored event window = stores ∙ ap (stored event) same in
    (λ i. in_window (stepped i) (its i)) ∙ sym (ap (with_event event) goes_on)
appended state after window held (Some next) event new history same ready stepped stores =
    let cuts : next.window ≡ next_window window = ready.1.begins ∙ ap (begun (total window)) history.replayed in
    let is_cut : cut_where_due (in_window state window) ≡ cut (in_window state window) = ap (λ due. cond due (cut (in_window state window)) (in_window state window)) ready.0 in
    let its : new.window ≡ stored event (next_window window) = stores ∙ ap (stored event) cuts in
    (λ i. in_window (stepped i) (its i)) ∙ sym (ap (with_event event) is_cut)
