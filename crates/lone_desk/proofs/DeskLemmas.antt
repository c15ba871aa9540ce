-- What a service records, as a desk over it reports it.
use Rattle.std.proofs.Common.{◌≡◌, ◌+◌, ◌<◌, ◌≤◌, Bool, true, false, [], Option, Some, None, Result, Ok, Err, IfOk, OnOk, IsTrue, refl, ap, ◌∙◌, sym, subst, arith, inl, inr}
use Rattle.std.proofs.lemmas.List.{length_push}
use Rattle.kr_base.specs.declared.ids.ConnId.{ConnId}
use Rattle.service_desk.specs.service_tables.specs.signal_fanout.specs.declared.rows.DeskRow.{DeskRow}
use Rattle.service_desk.specs.service_events.specs.declared.event.Event.{Event}
use Rattle.service_desk.specs.service_events.specs.declared.event.Event.TheVariants as event
use Rattle.service_desk.specs.service_events.specs.declared.event.Output.{Output}
use Rattle.service_desk.specs.service_events.specs.declared.event.Output.TheVariants as output
use Rattle.service_desk.specs.service_tables.specs.Connections.{desk_of}
use Rattle.service_desk.specs.service_tables.specs.Limits.{most_events}
use Rattle.service_desk.specs.service_tables.proofs.FitLemmas.{has-told, has-none}
use Rattle.service_desk.specs.service_events.specs.Fates.{with_fates, IsFaultless}
use Rattle.service_desk.specs.service_events.specs.Step.{step, output_of, Fits}
use Rattle.service_desk.specs.service_events.specs.declared.event.Arrival.{Arrival}
use Rattle.service_desk.specs.service_events.specs.declared.event.BroughtKey.{BroughtKey}
use Rattle.service_desk.specs.secret_calls.specs.declared.work.Work.{Work}
use Rattle.service_desk.specs.secret_calls.specs.declared.taken.Refused.{Refused}
use Rattle.service_desk.specs.secret_calls.specs.declared.taken.Refused.TheVariants as refused
use Rattle.service_history.specs.History.{History, cut_where_due, with_event, Stores, StoresKey, StoresRequest, given_for, taken_by, left_by, gone_by}
use Rattle.service_history.specs.Windows.{total, is_due}
use Rattle.service_desk.specs.Places.{Place, Looks, Extends}
use Rattle.service_desk.specs.Views.{View, IsView, with_others, with_own}
use Rattle.service_desk.specs.Calls.{Arrives, Finishes, Leaves, Goes, Takes}
use Rattle.service_desk.proofs.ViewLemmas.{view-others, view-own}

-- where the desk of a connection is over a service with this history, whose disk is steady or not
abbrev pub spot : ConnId → Bool → History → Place
spot conn steady history = record {
  told = record { conn = conn; home = None; state = history.state; count = total history.window; is_alone = true; is_steady = steady; is_waiting = false };
  has_seen = λ view. IsView history.state (total history.window) view;
}

-- a view is the same after no events of others
seen-none : (old : History) (view : View) → IsView old.state (total old.window) view → IsView old.state (total old.window) (with_others [] view)
seen-none old view is =
    let none : total old.window + 0 ≡ total old.window = omega arith in
    subst (λ n. IsView old.state n (with_others [] view)) none (view-others old.state (total old.window) view [] is tt)

-- a refusal is the same, whatever is returned otherwise
pub same-refusal : {S T F : Type 0} (one other : F) → ◌≡◌ {A = Result S F} (Err one) (Err other) → ◌≡◌ {A = Result T F} (Err one) (Err other)
same-refusal {S} {T} {F} one other e = ap back e
  where
    back : Result S F → Result T F
    back (Ok value) = Err one
    back (Err fault) = Err fault

-- nothing was recorded
pub looks : (conn : ConnId) (steady : Bool) (old : History) → Looks (spot conn steady old) (spot conn steady old)
looks conn steady old = record {
  between = [];
  alone = λ _. refl;
  legal = tt;
  state = refl;
  count = omega arith;
  same = record { conn = refl; home = refl; alone = refl; steady = refl; waiting = refl };
  views = λ view is. seen-none old view is;
}

-- one event was recorded
pub extends : (conn : ConnId) (steady : Bool) (old new : History) (event : Event) (answer : Output) → Fits old.state event → (IsTrue steady → IsFaultless event) → answer ≡ output_of old.state event
    → new.state ≡ step old.state event → total new.window ≡ total old.window + 1 → Extends (spot conn steady old) (spot conn steady new) event answer
extends conn steady old new event answer fits faultless answers state counted = record {
  between = [];
  alone = λ _. refl;
  legal = tt;
  at = old.state;
  reached = refl;
  fits = fits;
  faultless = faultless;
  answers = answers;
  state = state;
  count = omega (arith, counted);
  same = record { conn = refl; home = refl; alone = refl; steady = refl; waiting = refl };
  views = λ view is.
      let own = view-own old.state (total old.window) (with_others [] view) event (seen-none old view is) fits in
      subst (λ s. IsView s (total new.window) (with_own event (with_others [] view))) (sym state)
      (subst (λ n. IsView (step old.state event) n (with_own event (with_others [] view))) (sym counted) own);
}

pub total-with : (event : Event) (old : History) → total (with_event event old).window ≡ total old.window + 1
total-with event old = rw (length_push old.window.events event) (omega arith)

-- and that is the whole history with one event more
pub extends-with : (conn : ConnId) (steady : Bool) (old : History) (event : Event) → Fits old.state event → (IsTrue steady → IsFaultless event) → Extends (spot conn steady old) (spot conn steady (with_event event old)) event (output_of old.state event)
extends-with conn steady old event fits faultless = extends conn steady old (with_event event old) event (output_of old.state event) fits faultless refl refl (total-with event old)

-- a cut changes neither the state nor the number of all events
pub state-cut : (old : History) → (cut_where_due old).state ≡ old.state
state-cut old =
    let pass : (b : Bool) → is_due old.window ≡ b → (cut_where_due old).state ≡ old.state =
    elim [ true ↦ λ is. rw is refl | false ↦ λ is. rw is refl ] in
    pass (is_due old.window) refl

pub total-cut : (old : History) → total (cut_where_due old).window ≡ total old.window
total-cut old =
    let pass : (b : Bool) → is_due old.window ≡ b → total (cut_where_due old).window ≡ total old.window =
    elim [ true ↦ λ is. rw is (omega arith) | false ↦ λ is. rw is refl ] in
    pass (is_due old.window) refl

-- an event that was stored is one more
pub counts-stored : (old new : History) (event : Event) → Stores old event new → total new.window ≡ total old.window + 1
counts-stored old new event stores =
    ap (λ (h : History). total h.window) stores.appends ∙ total-with event (cut_where_due old) ∙ ap (λ n. n + 1) (total-cut old)

pub arrives : (conn : ConnId) (steady : Bool) (stored : Event → Type 0) (old new : History) (arrival : Arrival) (work : Option Work) → StoresRequest steady stored old arrival work new
    → total old.window < most_events → Arrives (spot conn steady old) (spot conn steady new) arrival work
arrives conn steady stored old new arrival work so left =
    let came = with_fates arrival so.fates in
    let counted : total new.window ≡ total old.window + 1 = counts-stored old new came so.stores in
    record {
      fates = so.fates;
      recorded = extends conn steady old new came (output.Arrived (record { work = work })) so.stores.fits so.faultless so.gives
          (ap (λ (h : History). h.state) so.stores.appends ∙ ap (λ s. step s came) (state-cut old)) counted;
      counted = omega (arith, counted, left);
    }

pub finishes : (conn : ConnId) (steady : Bool) (stored : Event → Type 0) (old new : History) (brought : BroughtKey) → StoresKey steady stored old brought new → total old.window < most_events
    → Finishes (spot conn steady old) (spot conn steady new) brought
finishes conn steady stored old new brought so left =
    let counted : total new.window ≡ total old.window + 1 = counts-stored old new (event.Derived so.came) so.stores in
    record {
      came = so.came;
      is = so.is;
      recorded = extends conn steady old new (event.Derived so.came) output.Derived so.stores.fits so.faultless refl
          (ap (λ (h : History). h.state) so.stores.appends ∙ ap (λ s. step s (event.Derived so.came)) (state-cut old)) counted;
      counted = omega (arith, counted, left);
    }

pub takes-some : (conn : ConnId) (steady : Bool) (old : History) (waits overrun leaving : Bool)
    → Some (record { waits = waits; overrun = overrun; leaving = leaving }) ≡ desk_of conn old.state.connections.rows
    → Takes (spot conn steady old) (spot conn steady (taken_by conn (Some (record { waits = waits; overrun = overrun; leaving = leaving })) old))
    (given_for conn old.state (Some (record { waits = waits; overrun = overrun; leaving = leaving })))
unfolding extends-with extends
takes-some conn steady old true overrun leaving told = extends-with conn steady old (event.Take conn) (rw (← told) refl) (λ _. tt)
takes-some conn steady old false true true told = (looks conn steady old, (true, sym told))
takes-some conn steady old false true false told = (looks conn steady old, (false, sym told))
takes-some conn steady old false false true told = (extends-with conn steady old (event.Gone conn) (has-told conn old.state.connections.rows _ told) (λ _. tt), sym told)
takes-some conn steady old false false false told = (looks conn steady old, sym told, refl)

pub takes : (conn : ConnId) (steady : Bool) (old : History) (desk : Option DeskRow) → desk ≡ desk_of conn old.state.connections.rows
    → Takes (spot conn steady old) (spot conn steady (taken_by conn desk old)) (given_for conn old.state desk)
takes conn steady old None told = (looks conn steady old, has-none conn old.state.connections.rows told)
takes conn steady old (Some desk) told = takes-some conn steady old desk.waits desk.overrun desk.leaving told

pub leaves-some : (conn : ConnId) (steady : Bool) (old : History) (waits overrun leaving : Bool)
    → Some (record { waits = waits; overrun = overrun; leaving = leaving }) ≡ desk_of conn old.state.connections.rows
    → Leaves (spot conn steady old) (spot conn steady (left_by conn (Some (record { waits = waits; overrun = overrun; leaving = leaving })) old))
leaves-some conn steady old waits overrun true told = inr (looks conn steady old, inr (waits, overrun, sym told))
leaves-some conn steady old waits overrun false told = inl (extends-with conn steady old (event.Leave conn) (rw (← told) refl) (λ _. tt))

pub leaves : (conn : ConnId) (steady : Bool) (old : History) (desk : Option DeskRow) → desk ≡ desk_of conn old.state.connections.rows → Leaves (spot conn steady old) (spot conn steady (left_by conn desk old))
leaves conn steady old None told = inr (looks conn steady old, inl (has-none conn old.state.connections.rows told))
leaves conn steady old (Some desk) told = leaves-some conn steady old desk.waits desk.overrun desk.leaving told

pub goes : (conn : ConnId) (steady : Bool) (old : History) (desk : Option DeskRow) → desk ≡ desk_of conn old.state.connections.rows → Goes (spot conn steady old) (spot conn steady (gone_by conn desk old))
goes conn steady old None told = inr (looks conn steady old, has-none conn old.state.connections.rows told)
goes conn steady old (Some desk) told = inl (extends-with conn steady old (event.Gone conn) (has-told conn old.state.connections.rows desk told) (λ _. tt))

-- what the service says of a request that it recorded
pub arrives-stored : (conn : ConnId) (steady : Bool) (stored : Event → Type 0) (old new : History) (arrival : Arrival) (result : Result (Option Work) Refused)
    → IfOk result (λ work. StoresRequest steady stored old arrival work new)
    → ((result ≡ Err refused.EventsSpent → ⊥) → most_events ≤ total old.window → ⊥) → IfOk result (Arrives (spot conn steady old) (spot conn steady new) arrival)
arrives-stored conn steady stored old new arrival (Ok work) stores left =
    let not_spent : most_events ≤ total old.window → ⊥ = left (λ (spent : Ok work ≡ Err refused.EventsSpent). cc) in
    arrives conn steady stored old new arrival work stores (omega (arith, not_spent))
arrives-stored conn steady stored old new arrival (Err why) stores left = tt

-- and of a derived key
pub finishes-stored : (conn : ConnId) (steady : Bool) (stored : Event → Type 0) (old new : History) (brought : BroughtKey) (result : Result Unit Refused)
    → OnOk result (StoresKey steady stored old brought new)
    → ((result ≡ Err refused.EventsSpent → ⊥) → most_events ≤ total old.window → ⊥) → OnOk result (Finishes (spot conn steady old) (spot conn steady new) brought)
finishes-stored conn steady stored old new brought (Ok done) stores left =
    let not_spent : most_events ≤ total old.window → ⊥ = left (λ (spent : Ok done ≡ Err refused.EventsSpent). cc) in
    finishes conn steady stored old new brought stores (omega (arith, not_spent))
finishes-stored conn steady stored old new brought (Err why) stores left = tt
