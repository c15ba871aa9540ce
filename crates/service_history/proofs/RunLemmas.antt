-- The windows of a service, one call after another, are those of a run.
use Rattle.std.proofs.Common.{◌≡◌, ◌+◌, ◌<◌, ◌==◌, inl, inr, Bool, true, false, ◌||◌, ◌&&◌, not, nat_le, cond, List, [], ◌∷◌, length, Option, Some, None, refl, ap, ◌∙◌, sym, subst, arith, append-nil}
use Rattle.std.specs.List.{list_any}
use Rattle.std.proofs.lemmas.Bool.Decides.{nat_tests}
use Rattle.kr_base.specs.declared.ids.ConnId.{ConnId}
use Rattle.service_machine.specs.service_tables.specs.signal_fanout.specs.declared.rows.DeskRow.{DeskRow}
use Rattle.service_machine.specs.service_events.specs.declared.event.Event.{Event}
use Rattle.service_machine.specs.service_events.specs.declared.event.Event.TheVariants as event
use Rattle.service_machine.specs.service_events.specs.declared.event.Incoming.{Incoming}
use Rattle.service_machine.specs.service_events.specs.declared.event.Output.{Output}
use Rattle.service_machine.specs.service_events.specs.Replay.{Legal, cost}
use Rattle.service_machine.specs.service_tables.specs.State.{State}
use Rattle.service_history.specs.History.{History, opened_history, cut_where_due, with_event, Stores, IsRecorded, taken_by, left_by, gone_by}
use Rattle.service_history.specs.Limits.{most_stored, most_cost}
use Rattle.service_history.specs.Runs.{GoesOn, Follows, AreCalls, windows_of}
use Rattle.service_history.specs.Windows.{Window, is_due, may_hide, first_window, next_window, Begins, AreInRow, AreWindows}

-- ---- one call

same-window : (window : Window) → GoesOn window window
same-window window = record { more = []; is = sym (λ i. record window { events = append-nil window.events i }) }

one-more : (event : Event) (old : History) → GoesOn old.window (with_event event old).window
one-more event old = record { more = event ∷ []; is = refl }

choice : (window : Window) (b : Bool) (x y : History) → GoesOn window x.window → GoesOn window y.window → GoesOn window (cond b x y).window
choice window true x y p q = p
choice window false x y p q = q

-- a cut is due only if there are events
cut-some : (events : List Event) → (nat_le most_stored (length events) || (nat_le most_cost (cost events) || list_any may_hide events)) ≡ true → 0 < length events
cut-some [] due = let no : ⊥ = cc in absurd no
cut-some (event ∷ events) due = omega arith

pub stored_follows : (old new : History) (event : Event) → Stores old event new → Follows old.window new.window
stored_follows old new event so =
    let pass : (b : Bool) → is_due old.window ≡ b → Follows old.window (with_event event (cut_where_due old)).window =
    elim [
      | true ↦ λ is. rw is (inr (record { some = cut-some old.window.events is; next = record { more = event ∷ []; is = refl } }))
      | false ↦ λ is. rw is (inl (one-more event old))
    ] in
    subst (λ (h : History). Follows old.window h.window) (sym so.appends) (pass (is_due old.window) refl)

pub recorded_follows : (steady : Bool) (old new : History) (came : Incoming) (answer : Output) → IsRecorded steady old came answer new → Follows old.window new.window
recorded_follows steady old new came answer so = stored_follows old new so.event (record { fits = so.fits; appends = so.appends })

pub take_goes : (conn : ConnId) (desk : Option DeskRow) (old : History) → GoesOn old.window (taken_by conn desk old).window
take_goes conn None old = same-window old.window
take_goes conn (Some desk) old =
    choice old.window desk.waits (with_event (event.Take conn) old) (cond (desk.leaving && not desk.overrun) (with_event (event.Gone conn) old) old) (one-more (event.Take conn) old)
    (choice old.window (desk.leaving && not desk.overrun) (with_event (event.Gone conn) old) old (one-more (event.Gone conn) old) (same-window old.window))

pub leave_goes : (conn : ConnId) (desk : Option DeskRow) (old : History) → GoesOn old.window (left_by conn desk old).window
leave_goes conn None old = same-window old.window
leave_goes conn (Some desk) old = choice old.window desk.leaving old (with_event (event.Leave conn) old) (same-window old.window) (one-more (event.Leave conn) old)

pub gone_goes : (conn : ConnId) (desk : Option DeskRow) (old : History) → GoesOn old.window (gone_by conn desk old).window
gone_goes conn None old = same-window old.window
gone_goes conn (Some desk) old = one-more (event.Gone conn) old

-- ---- one call after another

-- a window that continues begins as it did
begins-on : (start old new : Window) → Begins start old → GoesOn old new → Legal new.base new.events → Begins start new
begins-on start old new begins on legal = record {
  era = ap (λ (w : Window). w.era) on.is ∙ begins.era;
  base = ap (λ (w : Window). w.base) on.is ∙ begins.base;
  legal = legal;
}

-- a window before windows that follow it
row-front : (start window : Window) (windows : List Window) → Begins start window → 0 < length window.events → AreInRow (next_window window) windows → AreInRow start (window ∷ windows)
row-front start window [] begins some row = begins
row-front start window (next ∷ windows) begins some row = (begins, some, row)

row-from : (start : Window) (old : History) (more : List History) → Begins start old.window → AreCalls old more → AreInRow start (windows_of old more)
row-from start old [] begins calls = begins
row-from start old (new ∷ more) begins calls =
    let legal : Legal new.window.base new.window.events = calls.0.legal in
    elim calls.1 [
      | inl on ↦
          let same : (new.window.era == old.window.era) ≡ true = let e : new.window.era ≡ old.window.era = ap (λ (w : Window). w.era) on.is in grind (arith, nat_tests) in
          rw same (row-from start new more (begins-on start old.window new.window begins on legal) calls.2)
      | inr ended ↦
          let differs : (new.window.era == old.window.era) ≡ false =
          let e : new.window.era ≡ old.window.era + length old.window.events = ap (λ (w : Window). w.era) ended.next.is in
          let some : 0 < length old.window.events = ended.some in
          grind (arith, nat_tests) in
          rw differs (row-front start old.window (windows_of new more) begins ended.some
          (row-from (next_window old.window) new more (begins-on (next_window old.window) (next_window old.window) new.window (record { era = refl; base = refl; legal = tt }) ended.next legal) calls.2))
    ]

pub calls_row : (start : State) (histories : List History) → AreCalls (opened_history start) histories → AreWindows start (windows_of (opened_history start) histories)
calls_row start histories calls = row-from (first_window start) (opened_history start) histories (record { era = refl; base = refl; legal = tt }) calls
