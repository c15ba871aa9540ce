-- A call that recorded one event or none, from the turn to the view of its pass.
use Rattle.std.proofs.Common.{◌≡◌, ℕ, ◌+◌, ◌<◌, Bool, true, false, List, [], ◌∷◌, ◌++◌, length, Option, Some, None, Result, Ok, Err, IfOk, OnOk, OnErr, refl, sym, ap, ◌∙◌, subst, arith, length-append}
use Rattle.std.proofs.lemmas.List.{length_push}
use Rattle.kr_base.specs.declared.ids.ConnId.{ConnId}
use Rattle.service_desk.specs.service_tables.specs.State.{State}
use Rattle.service_desk.specs.service_tables.specs.signal_fanout.specs.declared.rows.DeskRow.{DeskRow}
use Rattle.service_desk.specs.secret_calls.specs.declared.taken.Refused.{Refused}
use Rattle.service_desk.specs.secret_calls.specs.declared.work.Work.{Work}
use Rattle.service_desk.specs.service_events.specs.declared.event.Arrival.{Arrival}
use Rattle.service_desk.specs.service_events.specs.declared.event.BroughtKey.{BroughtKey}
use Rattle.service_desk.specs.service_events.specs.declared.event.Event.{Event}
use Rattle.service_desk.specs.service_events.specs.declared.event.Event.TheVariants as event
use Rattle.service_desk.specs.service_tables.specs.declared.fate.Fate.{Fate}
use Rattle.service_desk.specs.service_events.specs.Fates.{with_fates}
use Rattle.service_desk.specs.service_tables.specs.Connections.{desk_of}
use Rattle.service_desk.specs.service_events.specs.Step.{Fits}
use Rattle.service_desk.specs.service_events.specs.Replay.{Legal}
use Rattle.service_desk.specs.service_tables.proofs.FitLemmas.{has-told}
use Rattle.service_history.specs.History.{History, IsHistory, Stores, StoresKey, StoresRequest, cut_where_due, with_event, given_for, taken_by, left_by, gone_by}
use Rattle.service_history.specs.Windows.{total, is_due}
use Rattle.service_desk.specs.Views.{View, ArePlaces, with_others, with_own}
use Rattle.service_desk.proofs.ViewLemmas.{places-below, places-push}
use Rattle.shared_turn.specs.Passes as turn
use Rattle.shared_turn.specs.Places.{longer}
use Rattle.shared_turn.proofs.Histories.{longer-is}
use Rattle.shared_turn.proofs.Seating.{some-is}
use Rattle.shared_service.specs.Ends.{IsEnd, IsAsSteady, StandsFor}
use Rattle.shared_service.specs.Tries.{after_take}
use Rattle.shared_service.specs.Passes.{start_or, steady_or, home_of, view_of, IsIdle}
use Rattle.shared_service.specs.Standing.{Start, Stands, newest}
use Rattle.shared_service.proofs.Standing.{total-stands, state-stands, stands-with, stands-due, newest-due, newest-push}

-- the history with this event, if there is one
abbrev pub with_some : Option Event → History → History
with_some None service = service
with_some (Some event) service = with_event event service

abbrev pub FitsSome : History → Option Event → Type 0
FitsSome service None = Unit {0}
FitsSome service (Some event) = Fits service.state event

-- how the service changes: not at all, or by one more event
abbrev pub Became : History → Option Event → History → Type 0
Became service None new = new ≡ service
Became service (Some event) new =
    (total new.window ≡ total service.window + 1)
    × (newest new.window.events ≡ event ∷ [])
    × ((start : State) (before : ℕ) (log : List Event) → Stands service start before log → Stands new start before (log ++ event ∷ []))

-- the pass after it recorded the event, if any, and passed the turn on
abbrev pub ended : Option Event → turn.View Start Event → turn.View Start Event
ended None pass = turn.outside pass
ended (Some event) pass = turn.recorded event pass

abbrev pub viewed : Option Event → View → View
viewed None view = view
viewed (Some event) view = with_own event view

-- what the calls record, given what is known of the connection
abbrev pub left_event : ConnId → Option DeskRow → Option Event
left_event conn None = None
left_event conn (Some desk) = Rattle.std.specs.Prelude.if◌then◌else◌ desk.leaving None (Some (event.Leave conn))

abbrev pub taken_event : ConnId → Option DeskRow → Option Event
taken_event conn None = None
taken_event conn (Some desk) =
    Rattle.std.specs.Prelude.if◌then◌else◌ desk.waits (Some (event.Take conn)) (Rattle.std.specs.Prelude.if◌then◌else◌ (Rattle.std.specs.Prelude.◌&&◌ desk.leaving (Rattle.std.specs.Prelude.not desk.overrun)) (Some (event.Gone conn)) None)

abbrev pub gone_event : ConnId → Option DeskRow → Option Event
gone_event conn None = None
gone_event conn (Some desk) = Some (event.Gone conn)

total-with : (event : Event) (service : History) → total (with_event event service).window ≡ total service.window + 1
total-with event service = rw (length_push service.window.events event) (omega arith)

module _ (old pass : turn.View Start Event) (between : List Event) (is : pass ≡ turn.inside between old) (idle : IsIdle old) (service : History)
    (found : (start : Start) → old.start ≡ Some start → Stands service start.state old.before pass.seen) where
  abbrev begun : Start
  begun = idle.start.0

  -- the service as it was found
  pub found-is : Stands service begun.state old.before (old.seen ++ between)
  found-is = subst (λ (p : turn.View Start Event). Stands service begun.state old.before p.seen) is (found begun idle.start.1)

  start-is : start_or old.start ≡ begun.state
  start-is = ap start_or idle.start.1

  -- the same in the view of the pass
  pub stands-view : Stands service (view_of old).start (view_of old).before ((view_of old).seen ++ between)
  stands-view = subst (λ (s : State). Stands service s old.before (old.seen ++ between)) (sym start-is) found-is

  few : pass.before + length pass.seen < 18446744073709551615
  few = subst (λ (p : turn.View Start Event). p.before + length p.seen < 18446744073709551615) (sym is)
      (let all = total-stands begun.state old.before (old.seen ++ between) service found-is in let counted = found-is.kept.counted in omega (arith, all, counted))

  stands-for : (new : History) (more : List Event) → Stands new begun.state old.before ((old.seen ++ between) ++ more) → StandsFor new pass more
  stands-for new more stands = subst (λ (p : turn.View Start Event). StandsFor new p more) (sym is)
      (λ start at. subst (λ (s : Start). Stands new s.state old.before ((old.seen ++ between) ++ more)) (some-is begun start (sym idle.start.1 ∙ at)) stands)

  pub end-some : (event : Option Event) (new : History) (count : ℕ) → Became service event new → count ≡ total service.window → IsEnd new count pass
  end-some None new count same counted = record {
    few = few;
    none = λ _. subst (λ (p : turn.View Start Event). (start : Start) → p.start ≡ Some start → Stands new start.state p.before p.seen) (sym is)
        (λ start at. subst (λ (z : History × Start). Stands z.0 z.1.state old.before (old.seen ++ between)) (λ i. (sym same i, some-is begun start (sym idle.start.1 ∙ at) i)) found-is);
    one = λ not. absurd (not (ap (λ (h : History). total h.window) same ∙ sym counted));
  }
  end-some (Some event) new count became counted = record {
    few = few;
    none = λ equal. let more = became.0 in absurd (omega (arith, equal, more, counted));
    one = λ _. (event, became.1, stands-for new (event ∷ []) (became.2 begun.state old.before (old.seen ++ between) found-is));
  }

  -- the pass as it is then
  pub ended-some : (event : Option Event) (new : History) (count : ℕ) (last : turn.View Start Event) → Became service event new → count ≡ total service.window
      → (total new.window ≡ count → last ≡ turn.outside pass) → ((one : Event) → (total new.window ≡ count → ⊥) → newest new.window.events ≡ one ∷ [] → last ≡ turn.recorded one pass)
      → last ≡ ended event (turn.inside between old)
  ended-some None new count last same counted none one = none (ap (λ (h : History). total h.window) same ∙ sym counted) ∙ ap turn.outside is
  ended-some (Some event) new count last became counted none one =
      one event (λ equal. let more = became.0 in absurd (omega (arith, equal, more, counted))) became.1 ∙ ap (turn.recorded event) is

  legal-found : Legal (start_or old.start) (old.seen ++ between)
  legal-found = stands-view.legal

  places-found : ArePlaces 0 (length (old.seen ++ between)) old.own
  places-found = places-below 0 (length old.seen) (length (old.seen ++ between)) old.own idle.places (let long = length-append old.seen between in omega (arith, long))

  -- it is idle, and its view has the event
  pub idle-some : (event : Option Event) → FitsSome service event → IsIdle (ended event (turn.inside between old))
  idle-some None fits = record { start = idle.start; outside = refl; legal = legal-found; places = places-found }
  idle-some (Some event) fits = record {
    start = idle.start;
    outside = refl;
    legal = Rattle.service_desk.specs.service_events.proofs.ReplayLemmas.Legal-append (start_or old.start) (old.seen ++ between) (event ∷ []) legal-found
        (subst (λ (s : State). Fits s event) (state-stands (start_or old.start) old.before (old.seen ++ between) service stands-view) fits, tt);
    places = subst (λ (k : ℕ). ArePlaces 0 k (old.own ++ length (old.seen ++ between) ∷ [])) (sym (length_push (old.seen ++ between) event)) (places-push 0 (length (old.seen ++ between)) old.own places-found);
  }

  pub view-some : (event : Option Event) → view_of (ended event (turn.inside between old)) ≡ viewed event (with_others between (view_of old))
  view-some None = refl
  view-some (Some event) = refl

  home-some : (event : Option Event) → home_of (ended event (turn.inside between old)) ≡ home_of old
  home-some None = refl
  home-some (Some event) = refl

  start-some : (event : Option Event) → (ended event (turn.inside between old)).start ≡ old.start
  start-some None = refl
  start-some (Some event) = refl

  -- the pass after the call: it is idle, of the same service and with the same passes, its view has the event, and its run began as it did
  pub done : (event : Option Event) (new : History) (count : ℕ) (last : turn.View Start Event) → FitsSome service event → Became service event new → count ≡ total service.window
      → (total new.window ≡ count → last ≡ turn.outside pass) → ((one : Event) → (total new.window ≡ count → ⊥) → newest new.window.events ≡ one ∷ [] → last ≡ turn.recorded one pass)
      → IsIdle last × (home_of last ≡ home_of old) × (view_of last ≡ viewed event (with_others between (view_of old))) × (steady_or last.start ≡ steady_or old.start)
  done event new count last fits same counted none one =
      let is-last = ended-some event new count last same counted none one in (
        subst IsIdle (sym is-last) (idle-some event fits),
        ap home_of is-last ∙ home-some event,
        ap view_of is-last ∙ view-some event,
        ap (λ (p : turn.View Start Event). steady_or p.start) is-last ∙ ap steady_or (start-some event),
      )

-- the disk that was found is as steady as it was where the run of the pass began, and a disk that is as steady as that one is, too
module _ (old pass : turn.View Start Event) (between : List Event) (is : pass ≡ turn.inside between old) (idle : IsIdle old) (steady : Bool)
    (found : (start : Start) → old.start ≡ Some start → steady ≡ start.steady) where
  pub steady-found : steady ≡ steady_or old.start
  steady-found = found idle.start.0 idle.start.1 ∙ sym (ap steady_or idle.start.1)

  pub steady-still : (now : Bool) → now ≡ steady → IsAsSteady now pass
  steady-still now same = λ start at. same ∙ found start (sym (ap (λ (p : turn.View Start Event). p.start) is) ∙ at)

-- one more event, after a cut if one was due
pub became-with : (service new : History) (event : Option Event) → FitsSome service event → new ≡ with_some event service → IsHistory new → Became service event new
became-with service new None fits same kept = same
became-with service new (Some event) fits same kept = (
  ap (λ (h : History). total h.window) same ∙ total-with event service,
  ap (λ (h : History). newest h.window.events) same ∙ newest-push service.window.events event,
  (λ start before log stands. subst (λ (h : History). Stands h start before (log ++ event ∷ [])) (sym same) (stands-with start before log service event stands fits (subst IsHistory same kept))),
)

total-cut : (service : History) → total (cut_where_due service).window ≡ total service.window
total-cut service =
    let pass : (b : Bool) → is_due service.window ≡ b → total (cut_where_due service).window ≡ total service.window =
    elim [ true ↦ λ is. rw is (omega arith) | false ↦ λ is. rw is refl ] in
    pass (is_due service.window) refl

pub became-due : (service new : History) (event : Event) → Stores service event new → IsHistory new → Became service (Some event) new
became-due service new event stores kept = (
  ap (λ (h : History). total h.window) stores.appends ∙ (total-with event (cut_where_due service) ∙ ap (λ (n : ℕ). n + 1) (total-cut service)),
  newest-due service new event stores.appends,
  (λ start before log stands. stands-due start before log service new event stands stores.fits stores.appends kept),
)

-- the event of a call that returned Ok; none if it returned Err
abbrev pub event_if : {T F : Type 0} → (T → Event) → Result T F → Option Event
event_if event (Ok value) = Some (event value)
event_if event (Err fault) = None

pub fits-if : {T F : Type 0} (event : T → Event) (service new : History) (result : Result T F) → IfOk result (λ value. Stores service (event value) new) → FitsSome service (event_if event result)
fits-if event service new (Ok value) stores = stores.fits
fits-if event service new (Err fault) stores = tt

pub became-if : {T F : Type 0} (event : T → Event) (service new : History) (result : Result T F) → IfOk result (λ value. Stores service (event value) new) → OnErr result (new ≡ service) → IsHistory new
    → Became service (event_if event result) new
became-if event service new (Ok value) stores same kept = became-due service new (event value) stores kept
became-if event service new (Err fault) stores same kept = same

-- how each storing of a request that was recorded ended; there is none if it wasn't
abbrev pub fates_if : (steady : Bool) (stored : Event → Type 0) (service : History) (arrival : Arrival) (new : History) (result : Result (Option Work) Refused)
    → IfOk result (λ work. StoresRequest steady stored service arrival work new) → List Fate
fates_if steady stored service arrival new (Ok work) stores = stores.fates
fates_if steady stored service arrival new (Err fault) stores = []

pub stores-if : (steady : Bool) (stored : Event → Type 0) (service : History) (arrival : Arrival) (new : History) (result : Result (Option Work) Refused)
    → (stores : IfOk result (λ work. StoresRequest steady stored service arrival work new))
    → IfOk result (λ _. Stores service (with_fates arrival (fates_if steady stored service arrival new result stores)) new)
stores-if steady stored service arrival new (Ok work) stores = stores.stores
stores-if steady stored service arrival new (Err fault) stores = tt

-- the event of a derived key that was recorded; of one that wasn't nothing is said
abbrev pub key_if : (steady : Bool) (stored : Event → Type 0) (service : History) (brought : BroughtKey) (new : History) (result : Result (Unit {0}) Refused)
    → OnOk result (StoresKey steady stored service brought new) → Event
key_if steady stored service brought new (Ok done) stores = event.Derived stores.came
key_if steady stored service brought new (Err fault) stores = event.Gone brought.conn

pub stores-key : (steady : Bool) (stored : Event → Type 0) (service : History) (brought : BroughtKey) (new : History) (result : Result (Unit {0}) Refused)
    → (stores : OnOk result (StoresKey steady stored service brought new)) → IfOk result (λ _. Stores service (key_if steady stored service brought new result stores) new)
stores-key steady stored service brought new (Ok done) stores = stores.stores
stores-key steady stored service brought new (Err fault) stores = tt

-- what the calls record is with_some of their events, which fit
left-bool : (conn : ConnId) (service : History) (waits overrun leaving : Bool)
    → left_by conn (Some (record { waits = waits; overrun = overrun; leaving = leaving })) service ≡ with_some (left_event conn (Some (record { waits = waits; overrun = overrun; leaving = leaving }))) service
left-bool conn service waits overrun true = refl
left-bool conn service waits overrun false = refl

pub left-some : (conn : ConnId) (service : History) (desk : Option DeskRow) → left_by conn desk service ≡ with_some (left_event conn desk) service
left-some conn service None = refl
left-some conn service (Some desk) = left-bool conn service desk.waits desk.overrun desk.leaving

fits-bool : (conn : ConnId) (service : History) (waits overrun leaving : Bool) → Some (record { waits = waits; overrun = overrun; leaving = leaving }) ≡ desk_of conn service.state.connections.rows
    → FitsSome service (left_event conn (Some (record { waits = waits; overrun = overrun; leaving = leaving })))
fits-bool conn service waits overrun true told = tt
fits-bool conn service waits overrun false told = rw (← told) refl

pub left-fits : (conn : ConnId) (service : History) (desk : Option DeskRow) → desk ≡ desk_of conn service.state.connections.rows → FitsSome service (left_event conn desk)
left-fits conn service None told = tt
left-fits conn service (Some desk) told = fits-bool conn service desk.waits desk.overrun desk.leaving told

pub gone-some : (conn : ConnId) (service : History) (desk : Option DeskRow) → gone_by conn desk service ≡ with_some (gone_event conn desk) service
gone-some conn service None = refl
gone-some conn service (Some desk) = refl

pub gone-fits : (conn : ConnId) (service : History) (desk : Option DeskRow) → desk ≡ desk_of conn service.state.connections.rows → FitsSome service (gone_event conn desk)
gone-fits conn service None told = tt
gone-fits conn service (Some desk) told = has-told conn service.state.connections.rows desk told

taken-bool : (conn : ConnId) (service : History) (waits overrun leaving : Bool)
    → taken_by conn (Some (record { waits = waits; overrun = overrun; leaving = leaving })) service ≡ with_some (taken_event conn (Some (record { waits = waits; overrun = overrun; leaving = leaving }))) service
taken-bool conn service true overrun leaving = refl
taken-bool conn service false true true = refl
taken-bool conn service false true false = refl
taken-bool conn service false false true = refl
taken-bool conn service false false false = refl

pub taken-some : (conn : ConnId) (service : History) (desk : Option DeskRow) → taken_by conn desk service ≡ with_some (taken_event conn desk) service
taken-some conn service None = refl
taken-some conn service (Some desk) = taken-bool conn service desk.waits desk.overrun desk.leaving

taken-fits-bool : (conn : ConnId) (service : History) (waits overrun leaving : Bool) → Some (record { waits = waits; overrun = overrun; leaving = leaving }) ≡ desk_of conn service.state.connections.rows
    → FitsSome service (taken_event conn (Some (record { waits = waits; overrun = overrun; leaving = leaving })))
taken-fits-bool conn service true overrun leaving told = rw (← told) refl
taken-fits-bool conn service false true true told = tt
taken-fits-bool conn service false true false told = tt
taken-fits-bool conn service false false true told = has-told conn service.state.connections.rows _ told
taken-fits-bool conn service false false false told = tt

pub taken-fits : (conn : ConnId) (service : History) (desk : Option DeskRow) → desk ≡ desk_of conn service.state.connections.rows → FitsSome service (taken_event conn desk)
taken-fits conn service None told = tt
taken-fits conn service (Some desk) told = taken-fits-bool conn service desk.waits desk.overrun desk.leaving told

after-bool : (conn : ConnId) (state : State) (view : View) (waits overrun leaving : Bool)
    → viewed (taken_event conn (Some (record { waits = waits; overrun = overrun; leaving = leaving }))) view
    ≡ after_take conn (given_for conn state (Some (record { waits = waits; overrun = overrun; leaving = leaving }))) view
after-bool conn state view true overrun leaving = refl
after-bool conn state view false true true = refl
after-bool conn state view false true false = refl
after-bool conn state view false false true = refl
after-bool conn state view false false false = refl

-- the view has what the call recorded, given what it returned
pub after-taken : (conn : ConnId) (state : State) (view : View) (desk : Option DeskRow) → viewed (taken_event conn desk) view ≡ after_take conn (given_for conn state desk) view
after-taken conn state view None = refl
after-taken conn state view (Some desk) = after-bool conn state view desk.waits desk.overrun desk.leaving

-- a pass that took over what another one knows is idle if both were
pub met-idle : (old other met : turn.View Start Event) → IsIdle old → IsIdle other → turn.IsMet old other met → IsIdle met
met-idle old other met idle idle-other gathered =
    let same : start_or other.start ≡ start_or old.start = ap start_or (sym gathered.start) in
    let seen : met.seen ≡ longer old.seen other.seen = ap (λ (p : turn.View Start Event). p.seen) gathered.is in record {
      start = (idle.start.0, ap (λ (p : turn.View Start Event). p.start) gathered.is ∙ idle.start.1);
      outside = ap (λ (p : turn.View Start Event). p.has_turn) gathered.is ∙ idle.outside;
      legal = subst (λ (p : turn.View Start Event). Legal (start_or p.start) p.seen) (sym gathered.is)
          (longer-is (Legal (start_or old.start)) old.seen other.seen idle.legal (subst (λ (s : State). Legal s other.seen) same idle-other.legal));
      places = same-places 0 (length met.seen) met.own gathered.places;
    }
  where
    same-places : (from below : ℕ) (places : List ℕ) → Rattle.shared_turn.specs.Places.ArePlaces from below places → ArePlaces from below places
    same-places from below [] are = are
    same-places from below (place ∷ places) are = (are.0, same-places (place + 1) below places are.1)

-- equal lists of one event have the same event
pub one-of : (one other : Event) → one ∷ [] ≡ other ∷ [] → one ≡ other
one-of one other e = ap first e
  where
    first : List Event → Event
    first [] = one
    first (event ∷ events) = event
