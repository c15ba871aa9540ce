-- What a call recorded with the turn, as the view of its pass shows it.
use Rattle.std.proofs.Common.{◌≡◌, ℕ, ◌<◌, Bool, true, false, List, [], ◌∷◌, ◌++◌, Option, Some, None, Result, Ok, Err, IsTrue, IfOk, IfErr, OnOk, OnErr, IsErrOf, ◌≢◌, refl, sym, ap, ◌∙◌, subst, arith, inl, inr, length-append, append-nil}
use Rattle.std.proofs.lemmas.List.{length_push, append_assoc}
use Rattle.kr_base.specs.declared.ids.ConnId.{ConnId}
use Rattle.service_desk.specs.secret_calls.specs.declared.taken.Taken.{Taken}
use Rattle.service_desk.specs.service_tables.specs.State.{State}
use Rattle.service_desk.specs.service_tables.specs.signal_fanout.specs.declared.rows.DeskRow.{DeskRow}
use Rattle.service_desk.specs.service_events.specs.declared.event.Event.{Event}
use Rattle.service_desk.specs.service_events.specs.declared.event.Event.TheVariants as event
use Rattle.service_desk.specs.service_tables.specs.Connections.{desk_of, has}
use Rattle.service_desk.specs.service_events.specs.Fates.{with_fates, IsFaultless}
use Rattle.service_desk.specs.service_events.specs.Step.{step, output_of, Fits, IsMissing, IsCrowded, CanJoin}
use Rattle.service_desk.specs.service_events.specs.Replay.{replay, Legal}
use Rattle.service_desk.specs.service_tables.proofs.FitLemmas.{has-told, has-none}
use Rattle.service_desk.specs.service_events.proofs.ReplayLemmas.{replay-append}
use Rattle.service_history.specs.History.{History, Stores, StoresKey, StoresRequest, given_for}
use Rattle.service_history.specs.History as history
use Rattle.service_history.specs.Windows.{total}
use Rattle.service_desk.specs.Places.{Home, Looks, Extends}
use Rattle.service_desk.specs.Views.{View, with_others, with_own, state_of, count_of, HasCause}
use Rattle.service_desk.specs.Calls.{Arrives, Finishes, IsRefusal, Leaves, Goes, Takes}
use Rattle.service_desk.specs.service_tables.specs.Limits.{most_events, IsSpent}
use Rattle.service_desk.specs.secret_calls.specs.declared.work.Work.{Work}
use Rattle.service_desk.specs.service_events.specs.declared.event.Arrival.{Arrival}
use Rattle.service_desk.specs.service_events.specs.declared.event.BroughtKey.{BroughtKey}
use Rattle.service_desk.specs.service_events.specs.declared.event.Output.{Output}
use Rattle.service_desk.specs.service_events.specs.declared.event.Output.TheVariants as output
use Rattle.service_desk.specs.service_events.specs.declared.event.JoinRefused.{JoinRefused}
use Rattle.service_desk.specs.service_events.specs.declared.event.JoinRefused.TheVariants as join
use Rattle.service_desk.specs.secret_calls.specs.declared.taken.Refused.{Refused}
use Rattle.service_desk.specs.secret_calls.specs.declared.taken.Refused.TheVariants as refused
use Rattle.shared_service.specs.Passes.{spot, told, HasPlace, IsRefused}
use Rattle.shared_service.specs.Standing.{Stands}
use Rattle.shared_service.specs.Tries.{Tries, after_take}
use Rattle.shared_service.proofs.Ends.{viewed, left_event, gone_event, event_if, fates_if, key_if}
use Rattle.shared_service.proofs.Standing.{state-stands, total-stands, Legal-behind}

off : false ≡ true → ⊥
off e = cc

not-spent : (count : ℕ) → (IsSpent count → ⊥) → count < most_events
not-spent count not = omega (arith, not)

err-of : {T F : Type 0} (one other : F) → ◌≡◌ {A = Result T F} (Err one) (Err other) → one ≡ other
err-of {T} {F} one other e = ap fault e
  where
    fault : Result T F → F
    fault (Ok value) = one
    fault (Err f) = f

module _ (conn : ConnId) (home : Home) (steady : Bool) (view : View) (between : List Event) (service : History) (stands : Stands service view.start view.before (view.seen ++ between)) where
  abbrev met : View
  met = with_others between view

  -- the state where the service was found
  pub state-met : service.state ≡ replay (state_of view) between
  state-met = state-stands view.start view.before (view.seen ++ between) service stands ∙ replay-append view.start view.seen between

  legal-met : Legal (state_of view) between
  legal-met = Legal-behind view.start view.seen between stands.legal

  -- nothing was recorded
  pub looks : Looks (spot conn home steady view) (spot conn home steady met)
  looks = record {
    between = between;
    alone = λ is. absurd (off is);
    legal = legal-met;
    state = replay-append view.start view.seen between;
    count = let long = length-append view.seen between in omega (arith, long);
    same = record { conn = refl; home = refl; alone = refl; steady = refl; waiting = refl };
    views = λ other is. ap (with_others between) is;
  }

  -- one event was recorded
  pub extends : (event : Event) → Fits service.state event → (IsTrue steady → IsFaultless event) → Extends (spot conn home steady view) (spot conn home steady (with_own event met)) event (output_of service.state event)
  extends event fits faultless = record {
    between = between;
    alone = λ is. absurd (off is);
    legal = legal-met;
    at = service.state;
    reached = state-met;
    fits = fits;
    faultless = faultless;
    answers = refl;
    state = replay-append view.start (view.seen ++ between) (event ∷ []) ∙ ap (λ (s : State). step s event) (replay-append view.start view.seen between ∙ sym state-met);
    count = let long = length-append view.seen between in let push = length_push (view.seen ++ between) event in omega (arith, long, push);
    same = record { conn = refl; home = refl; alone = refl; steady = refl; waiting = refl };
    views = λ other is. ap (λ (v : View). with_own event (with_others between v)) is;
  }

  -- what the view shows of the state if nothing was recorded
  pub told-met : (P : State → Type 0) → P service.state → P (state_of met)
  told-met P is = subst P (state-stands view.start view.before (view.seen ++ between) service stands) is

  pub count-met : total service.window ≡ count_of met
  count-met = total-stands view.start view.before (view.seen ++ between) service stands

  takes-some : (waits overrun leaving : Bool) → Some (record { waits = waits; overrun = overrun; leaving = leaving }) ≡ desk_of conn service.state.connections.rows
      → (given : Taken) → given ≡ given_for conn service.state (Some (record { waits = waits; overrun = overrun; leaving = leaving })) → (given ≡ Rattle.service_desk.specs.secret_calls.specs.declared.taken.Taken.TheVariants.Empty → ⊥)
      → Takes (spot conn home steady view) (spot conn home steady (after_take conn given met)) given
  unfolding extends
  takes-some true overrun leaving told given is some = rw is (extends (event.Take conn) (rw (← told) refl) (λ _. tt))
  takes-some false true true told given is some = rw is (looks, (true, told-met (λ s. desk_of conn s.connections.rows ≡ Some (record { waits = false; overrun = true; leaving = true })) (sym told)))
  takes-some false true false told given is some = rw is (looks, (false, told-met (λ s. desk_of conn s.connections.rows ≡ Some (record { waits = false; overrun = true; leaving = false })) (sym told)))
  takes-some false false true told given is some = rw is (extends (event.Gone conn) (has-told conn service.state.connections.rows _ told) (λ _. tt), sym told)
  takes-some false false false told given is some = absurd (some is)

  -- the call returned something other than Empty
  pub takes : (desk : Option DeskRow) → desk ≡ desk_of conn service.state.connections.rows → (given : Taken) → given ≡ given_for conn service.state desk
      → (given ≡ Rattle.service_desk.specs.secret_calls.specs.declared.taken.Taken.TheVariants.Empty → ⊥) → Takes (spot conn home steady view) (spot conn home steady (after_take conn given met)) given
  takes None told given is some = rw is (looks, told-met (λ s. has conn s.connections.rows ≡ false) (has-none conn service.state.connections.rows told))
  takes (Some desk) told given is some = takes-some desk.waits desk.overrun desk.leaving told given is some

  leaves-some : (waits overrun leaving : Bool) → Some (record { waits = waits; overrun = overrun; leaving = leaving }) ≡ desk_of conn service.state.connections.rows
      → Leaves (spot conn home steady view) (spot conn home steady (viewed (left_event conn (Some (record { waits = waits; overrun = overrun; leaving = leaving }))) met))
  leaves-some waits overrun true told = inr (looks, inr (waits, overrun, told-met (λ s. desk_of conn s.connections.rows ≡ Some (record { waits = waits; overrun = overrun; leaving = true })) (sym told)))
  leaves-some waits overrun false told = inl (extends (event.Leave conn) (rw (← told) refl) (λ _. tt))

  -- the connection left, or was leaving
  pub leaves : (desk : Option DeskRow) → desk ≡ desk_of conn service.state.connections.rows → Leaves (spot conn home steady view) (spot conn home steady (viewed (left_event conn desk) met))
  leaves None told = inr (looks, inl (told-met (λ s. has conn s.connections.rows ≡ false) (has-none conn service.state.connections.rows told)))
  leaves (Some desk) told = leaves-some desk.waits desk.overrun desk.leaving told

  -- the connection is gone
  pub goes : (desk : Option DeskRow) → desk ≡ desk_of conn service.state.connections.rows → Goes (spot conn home steady view) (spot conn home steady (viewed (gone_event conn desk) met))
  goes None told = inr (looks, told-met (λ s. has conn s.connections.rows ≡ false) (has-none conn service.state.connections.rows told))
  goes (Some desk) told = inl (extends (event.Gone conn) (has-told conn service.state.connections.rows desk told) (λ _. tt))

-- events of others, and then more
pub more-others : (view : View) (events more : List Event) → with_others more (with_others events view) ≡ with_others (events ++ more) view
more-others view events more = λ i. record view { seen = append_assoc view.seen events more i }

pub none-more : (view : View) → view ≡ with_others [] view
none-more view = λ i. record view { seen = sym (append-nil view.seen) i }

-- the call returned something other than Empty, after events of others
pub takes-after : (conn : ConnId) (home : Home) (steady : Bool) (view loop last : View) (before : List Event) (given : Taken) → loop ≡ with_others before view → Tries conn loop given last
    → (given ≡ Rattle.service_desk.specs.secret_calls.specs.declared.taken.Taken.TheVariants.Empty → ⊥) → Takes (spot conn home steady view) (spot conn home steady last) given
takes-after conn home steady view loop last before given is tried some =
    let all : with_others tried.between loop ≡ with_others (before ++ tried.between) view = ap (with_others tried.between) is ∙ more-others view before tried.between in
    let stands : Stands tried.service view.start view.before (view.seen ++ (before ++ tried.between)) =
    subst (λ (v : View). Stands tried.service v.start v.before v.seen) all tried.stands in
    subst (λ (v : View). Takes (spot conn home steady view) (spot conn home steady v) given) (sym (tried.is ∙ ap (after_take conn given) all))
    (takes conn home steady view (before ++ tried.between) tried.service stands (history.told conn tried.service) refl given tried.given_is some)

module _ (conn : ConnId) (home : Home) (steady : Bool) (view last : View) (between : List Event) (service : History) (stands : Stands service view.start view.before (view.seen ++ between)) where
  -- the request was recorded
  pub arrives-if : (stored : Event → Type 0) (arrival : Arrival) (new : History) (result : Result (Option Work) Refused) → (stores : IfOk result (λ work. StoresRequest steady stored service arrival work new))
      → (result ≢ Err refused.EventsSpent → IsSpent (total service.window) → ⊥)
      → last ≡ viewed (event_if (λ _. with_fates arrival (fates_if steady stored service arrival new result stores)) result) (with_others between view)
      → IfOk result (Arrives (spot conn home steady view) (spot conn home steady last) arrival)
  arrives-if stored arrival new (Ok work) stores left is = subst (λ (v : View). Arrives (spot conn home steady view) (spot conn home steady v) arrival work) (sym is) record {
    fates = stores.fates;
    recorded = subst (λ (o : Output). Extends (spot conn home steady view) (spot conn home steady (viewed (Some (with_fates arrival stores.fates)) (with_others between view))) (with_fates arrival stores.fates) o)
        (sym stores.gives) (extends conn home steady view between service stands (with_fates arrival stores.fates) stores.stores.fits stores.faultless);
    counted =
        let all = count-met conn home steady view between service stands in
        let push = length_push (view.seen ++ between) (with_fates arrival stores.fates) in
        let few : total service.window < most_events = not-spent (total service.window) (left (λ e. cc)) in omega (arith, all, push, few);
  }
  arrives-if stored arrival new (Err fault) stores left is = tt

  -- the derived key was recorded
  pub finishes-if : (stored : Event → Type 0) (brought : BroughtKey) (new : History) (result : Result (Unit {0}) Refused) → (stores : OnOk result (StoresKey steady stored service brought new))
      → (result ≢ Err refused.EventsSpent → IsSpent (total service.window) → ⊥)
      → last ≡ viewed (event_if (λ _. key_if steady stored service brought new result stores) result) (with_others between view)
      → OnOk result (Finishes (spot conn home steady view) (spot conn home steady last) brought)
  finishes-if stored brought new (Ok done) stores left is = subst (λ (v : View). Finishes (spot conn home steady view) (spot conn home steady v) brought) (sym is) record {
    came = stores.came;
    is = stores.is;
    recorded = extends conn home steady view between service stands (event.Derived stores.came) stores.stores.fits stores.faultless;
    counted =
        let all = count-met conn home steady view between service stands in
        let push = length_push (view.seen ++ between) (event.Derived stores.came) in
        let few : total service.window < most_events = not-spent (total service.window) (left (λ e. cc)) in omega (arith, all, push, few);
  }
  finishes-if stored brought new (Err fault) stores left is = tt

  -- it was refused, and nothing recorded
  pub looks-if : {T : Type 0} (event : T → Event) (result : Result T Refused) → last ≡ viewed (event_if event result) (with_others between view) → OnErr result (Looks (spot conn home steady view) (spot conn home steady last))
  looks-if event (Ok done) is = tt
  looks-if event (Err fault) is = subst (λ (v : View). Looks (spot conn home steady view) (spot conn home steady v)) (sym is) (looks conn home steady view between service stands)

  refused-by : (fault : Refused) → (fault ≡ refused.EventsSpent → IsSpent (total service.window)) → (fault ≢ refused.EventsSpent → IsSpent (total service.window) → ⊥) → (fault ≡ refused.Gone → IsMissing conn service.state)
      → (fault ≡ refused.OutOfMemory → ¬ (IsMissing conn service.state)) → IsRefusal fault (told conn home steady (with_others between view))
  refused-by refused.EventsSpent spent left gone there = let all = count-met conn home steady view between service stands in let most = spent refl in omega (arith, all, most)
  refused-by refused.Gone spent left gone there = (
    (let all = count-met conn home steady view between service stands in let few : total service.window < most_events = not-spent (total service.window) (left (λ e. cc)) in omega (arith, all, few)),
    told-met conn home steady view between service stands (IsMissing conn) (gone refl),
  )
  refused-by refused.OutOfMemory spent left gone there = (
    (let all = count-met conn home steady view between service stands in let few : total service.window < most_events = not-spent (total service.window) (left (λ e. cc)) in omega (arith, all, few)),
    told-met conn home steady view between service stands (λ state. ¬ (IsMissing conn state)) (there refl),
  )

  -- for a cause in the state
  pub refused-if : {T : Type 0} (event : T → Event) (result : Result T Refused) → (IsErrOf result refused.EventsSpent → IsSpent (total service.window)) → (result ≢ Err refused.EventsSpent → IsSpent (total service.window) → ⊥)
      → (IsErrOf result refused.Gone → IsMissing conn service.state) → (IsErrOf result refused.OutOfMemory → ¬ (IsMissing conn service.state)) → last ≡ viewed (event_if event result) (with_others between view) → IfErr result (λ fault. IsRefusal fault (told conn home steady last))
  refused-if event (Ok done) spent left gone there is = tt
  refused-if event (Err fault) spent left gone there is = subst (λ (v : View). IsRefusal fault (told conn home steady v)) (sym is) (refused-by fault (λ e. spent (ap (λ (f : Refused). Err f) e)) (λ other. left (λ e. other (err-of fault refused.EventsSpent e))) (λ e. gone (ap (λ (f : Refused). Err f) e)) (λ e. there (ap (λ (f : Refused). Err f) e)))

module _ (home : Home) (steady : Bool) (view last : View) (between : List Event) (service : History) (stands : Stands service view.start view.before (view.seen ++ between)) where
  -- the connection joined
  pub joins-if : (new : History) (result : Result ConnId JoinRefused) → IfOk result (λ conn. Stores service (event.Connect conn) new)
      → last ≡ viewed (event_if (λ conn. event.Connect conn) result) (with_others between view) → IfOk result (λ conn. Extends (spot conn home steady view) (spot conn home steady last) (event.Connect conn) (output.Joined conn))
  joins-if new (Ok conn) stores is = subst (λ (v : View). Extends (spot conn home steady view) (spot conn home steady v) (event.Connect conn) (output.Joined conn)) (sym is) (extends conn home steady view between service stands (event.Connect conn) stores.fits (λ _. tt))
  joins-if new (Err fault) stores is = tt

  cause-of : (fault : JoinRefused) → (fault ≡ join.EventsSpent → IsSpent (total service.window)) → (fault ≡ join.TooManyConnections → IsCrowded service.state) → HasCause fault (with_others between view)
  cause-of join.EventsSpent spent crowded = let all = count-met (record { 0 = 0 }) home steady view between service stands in let most = spent refl in omega (arith, all, most)
  cause-of join.TooManyConnections spent crowded = told-met (record { 0 = 0 }) home steady view between service stands IsCrowded (crowded refl)
  cause-of join.OutOfMemory spent crowded = tt

  -- it could have joined where memory ran out
  place-of : (fault : JoinRefused) → (fault ≢ join.EventsSpent → IsSpent (total service.window) → ⊥) → (fault ≡ join.OutOfMemory → CanJoin service.state) → fault ≡ join.OutOfMemory → HasPlace (with_others between view)
  place-of fault left room is = (
    (let all = count-met (record { 0 = 0 }) home steady view between service stands in let few : total service.window < most_events = not-spent (total service.window) (left (λ e. cc)) in omega (arith, all, few)),
    told-met (record { 0 = 0 }) home steady view between service stands CanJoin (room is),
  )

  -- it couldn't join, for a cause in the state
  pub crowded-if : (result : Result ConnId JoinRefused) → (IsErrOf result join.EventsSpent → IsSpent (total service.window)) → (IsErrOf result join.TooManyConnections → IsCrowded service.state)
      → (result ≢ Err join.EventsSpent → IsSpent (total service.window) → ⊥) → (IsErrOf result join.OutOfMemory → CanJoin service.state) → last ≡ viewed (event_if (λ conn. event.Connect conn) result) (with_others between view) → IfErr result (λ fault. IsRefused home steady fault view last)
  crowded-if (Ok conn) spent crowded left room is = tt
  crowded-if (Err fault) spent crowded left room is = subst (λ (v : View). IsRefused home steady fault view v) (sym is) (
    (λ conn. looks conn home steady view between service stands),
    cause-of fault (λ e. spent (ap (λ (f : JoinRefused). Err f) e)) (λ e. crowded (ap (λ (f : JoinRefused). Err f) e)),
    place-of fault (λ other. left (λ e. other (err-of fault join.EventsSpent e))) (λ e. room (ap (λ (f : JoinRefused). Err f) e)),
  )
