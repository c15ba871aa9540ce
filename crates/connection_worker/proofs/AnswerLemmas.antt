-- What a request or a key puts out for the only connection waits after that if it can wait together; otherwise an output is lost, and the first ones wait.
use Rattle.std.proofs.Common.{◌≡◌, ℕ, Bool, true, false, cond, List, [], ◌∷◌, length, refl, sym, ◌∙◌, ap, subst, arith}
use Rattle.std.proofs.lemmas.Bool.{lt-ltb}
use Rattle.kr_base.specs.declared.ids.ConnId.{ConnId}
use Rattle.service_desk.specs.secret_calls.specs.declared.out.Out.{Out}
use Rattle.service_desk.specs.secret_calls.specs.declared.work.Work.{Work}
use Rattle.service_desk.specs.service_tables.specs.Sound.{IsSound}
use Rattle.service_desk.specs.service_tables.specs.State.{State}
use Rattle.service_desk.specs.service_tables.specs.Connections.{changed, delivered, emptied, is_overrun, sent_to}
use Rattle.service_desk.specs.service_events.specs.Step.{Fits, finished, put_out, puts_out, served, step}
use Rattle.service_desk.specs.service_events.proofs.AloneLemmas.{arrived-connections}
use Rattle.service_desk.specs.service_events.proofs.SoundLemmas.{sound_replay, sound_step}
use Rattle.service_desk.specs.service_events.specs.declared.event.Event.{Event}
use Rattle.service_desk.specs.service_events.specs.declared.event.Event.TheVariants as event
use Rattle.service_desk.specs.service_events.specs.Replay.{replay}
use Rattle.service_desk.specs.Places.{Told, Place}
use Rattle.service_desk.proofs.RecordLemmas.{own-legal, own-state}
use Rattle.service_desk.specs.service_events.specs.Single.{TimedKey, TimedRequest, recorded_of, arrival, derivation, taking}
use Rattle.connection_worker.specs.Fitting.{CanWaitTogether, RequestFits}
use Rattle.connection_worker.specs.Replies.{asked_outputs}
use Rattle.connection_worker.specs.Serving.{IsDue, IsIdle, IsOwed, has_lost, owed, HasGiven}
use Rattle.connection_worker.proofs.DeliveryLemmas.{IsDelivered, delivered-due, due_row, row-lost, whole-rows}
use Rattle.connection_worker.proofs.ServingLemmas.{same}
use Rattle.connection_worker.proofs.KeyLemmas.{derivation_of, derived-connections}

-- the outputs due to the only connection are what waits in its row
pub owed-is : (told : Told) (outs : List Out) (lost : Bool) → IsDue told outs lost → owed told ≡ outs
owed-is told outs lost is = rw is.only (rw (same told.conn.0) refl)

-- and its row says whether it has lost one
pub lost-is : (told : Told) (outs : List Out) (lost : Bool) → IsDue told outs lost → has_lost told ≡ lost
lost-is told outs lost is = rw is.only (rw (same told.conn.0) refl)

pub owed-all : (told : Told) (outs : List Out) (lost : Bool) → IsDue told outs lost → IsDue told (owed told) lost
owed-all told outs lost is = subst (λ o. IsDue told o lost) (sym (owed-is told outs lost is)) is

pub due-all : (told : Told) (outs : List Out) (lost : Bool) → IsDue told outs lost → IsDue told (owed told) (has_lost told)
due-all told outs lost is = subst (λ b. IsDue told (owed told) b) (sym (lost-is told outs lost is)) (owed-all told outs lost is)

pub due-idle : (told : Told) (lost : Bool) → IsDue told [] lost → IsIdle told
due-idle told lost is = subst (λ b. IsDue told [] b) (sym (lost-is told [] lost is)) is

-- what an event puts out for the connection
abbrev pub put_to : ConnId → State → Event → List Out
put_to conn state event = sent_to conn (puts_out state event)

-- ---- what waits after an event

-- after a request
pub arrived-due : (conn : ConnId) (state : State) (a : TimedRequest) (taken : ℕ) → state.connections.rows ≡ due_row conn [] false taken ∷ []
    → IsDelivered conn [] (asked_outputs conn state a) taken (step state (arrival conn a)).connections.rows
arrived-due conn state a taken only =
    let came = recorded_of conn a in
    let sent = put_out conn a.request (served came state) in
    subst (λ rows. IsDelivered conn [] (sent_to conn sent) taken rows) (sym (arrived-connections came state ∙ ap (delivered sent) only)) (delivered-due conn sent [] taken (omega arith))

-- the same after a key
pub derived-due : (conn : ConnId) (state : State) (work : Work) (key : TimedKey) (taken : ℕ) → state.connections.rows ≡ due_row conn [] false taken ∷ []
    → IsDelivered conn [] (put_to conn state (derivation conn work key)) taken (step state (derivation conn work key)).connections.rows
derived-due conn state work key taken only =
    let came = derivation_of conn work key in
    let sent = (finished came state).sends in
    subst (λ rows. IsDelivered conn [] (sent_to conn sent) taken rows) (sym (derived-connections came state ∙ ap (delivered sent) only)) (delivered-due conn sent [] taken (omega arith))

-- all of it waits if it can
pub arrived-rows : (conn : ConnId) (state : State) (a : TimedRequest) (taken : ℕ) → state.connections.rows ≡ due_row conn [] false taken ∷ [] → RequestFits conn state a
    → (step state (arrival conn a)).connections.rows ≡ due_row conn (asked_outputs conn state a) false taken ∷ []
arrived-rows conn state a taken only fits = whole-rows (arrived-due conn state a taken only) fits

pub derived-rows : (conn : ConnId) (state : State) (work : Work) (key : TimedKey) (taken : ℕ) → state.connections.rows ≡ due_row conn [] false taken ∷ []
    → CanWaitTogether (put_to conn state (derivation conn work key))
    → (step state (derivation conn work key)).connections.rows ≡ due_row conn (put_to conn state (derivation conn work key)) false taken ∷ []
derived-rows conn state work key taken only fits = whole-rows (derived-due conn state work key taken only) fits

-- the outputs after an event that are due, as a desk sees them
pub event-due : (told new : Told) (event : Event) (outs : List Out) (lost : Bool) (taken : ℕ) → IsSound told.state → Fits told.state event
    → (step told.state event).connections.rows ≡ due_row told.conn outs lost taken ∷ [] → new.conn ≡ told.conn → new.state ≡ step told.state event → IsDue new outs lost
event-due told new event outs lost taken sound fits rows conn state = record {
  sound = subst IsSound (sym state) (sound_step told.state event sound fits);
  taken = taken;
  only = ap (λ (s : State). s.connections.rows) state ∙ rows ∙ ap (λ c. due_row c outs lost taken ∷ []) (sym conn);
}

pub arrived-owed : (told new : Told) (a : TimedRequest) → IsOwed told [] → Fits told.state (arrival told.conn a) → new.conn ≡ told.conn → new.state ≡ step told.state (arrival told.conn a) → IsDue new (owed new) (has_lost new)
arrived-owed told new a is fits conn state =
    let d = arrived-due told.conn told.state a is.taken is.only in
    due-all new d.waiting d.lost (event-due told new (arrival told.conn a) d.waiting d.lost is.taken is.sound fits d.only conn state)

pub derived-owed : (told new : Told) (work : Work) (key : TimedKey) → IsOwed told [] → Fits told.state (derivation told.conn work key) → new.conn ≡ told.conn
    → new.state ≡ step told.state (derivation told.conn work key) → IsDue new (owed new) (has_lost new)
derived-owed told new work key is fits conn state =
    let d = derived-due told.conn told.state work key is.taken is.only in
    due-all new d.waiting d.lost (event-due told new (derivation told.conn work key) d.waiting d.lost is.taken is.sound fits d.only conn state)

-- ---- what fits

-- whether an output is lost after an event, as a desk sees it
lost-after : (told new : Told) (event : Event) (outs : List Out) (lost : Bool) (taken : ℕ) → (step told.state event).connections.rows ≡ due_row told.conn outs lost taken ∷ []
    → new.conn ≡ told.conn → new.state ≡ step told.state event → has_lost new ≡ lost
lost-after told new event outs lost taken rows conn state =
    let at : new.state.connections.rows ≡ due_row told.conn outs lost taken ∷ [] = ap (λ (s : State). s.connections.rows) state ∙ rows in
    (λ i. is_overrun (conn i) (at i)) ∙ row-lost told.conn outs lost taken

-- an output of a request is lost exactly if they can't wait together
pub arrived-kept : (told new : Told) (a : TimedRequest) → IsOwed told [] → new.conn ≡ told.conn → new.state ≡ step told.state (arrival told.conn a) → has_lost new ≡ false → RequestFits told.conn told.state a
arrived-kept told new a is conn state kept =
    let d = arrived-due told.conn told.state a is.taken is.only in
    d.can (sym (lost-after told new (arrival told.conn a) d.waiting d.lost is.taken d.only conn state) ∙ kept)

pub arrived-lost : (told new : Told) (a : TimedRequest) → IsOwed told [] → new.conn ≡ told.conn → new.state ≡ step told.state (arrival told.conn a) → has_lost new ≡ true → RequestFits told.conn told.state a → ⊥
arrived-lost told new a is conn state lost fits =
    let d = arrived-due told.conn told.state a is.taken is.only in
    let no : true ≡ false = sym lost ∙ lost-after told new (arrival told.conn a) d.waiting d.lost is.taken d.only conn state ∙ d.whole fits in cc

-- so is one of a key
pub derived-kept : (told new : Told) (work : Work) (key : TimedKey) → IsOwed told [] → new.conn ≡ told.conn → new.state ≡ step told.state (derivation told.conn work key) → has_lost new ≡ false
    → CanWaitTogether (put_to told.conn told.state (derivation told.conn work key))
derived-kept told new work key is conn state kept =
    let d = derived-due told.conn told.state work key is.taken is.only in
    d.can (sym (lost-after told new (derivation told.conn work key) d.waiting d.lost is.taken d.only conn state) ∙ kept)

pub derived-lost : (told new : Told) (work : Work) (key : TimedKey) → IsOwed told [] → new.conn ≡ told.conn → new.state ≡ step told.state (derivation told.conn work key) → has_lost new ≡ true
    → CanWaitTogether (put_to told.conn told.state (derivation told.conn work key)) → ⊥
derived-lost told new work key is conn state lost fits =
    let d = derived-due told.conn told.state work key is.taken is.only in
    let no : true ≡ false = sym lost ∙ lost-after told new (derivation told.conn work key) d.waiting d.lost is.taken d.only conn state ∙ d.whole fits in cc

-- ---- what waited is taken

-- once it was taken, the state is sound
given-sound : (mid new : Place) → IsSound mid.told.state → HasGiven mid new → IsSound new.told.state
given-sound mid new sound so =
    let takes = taking mid.told.conn mid.told.state in
    subst IsSound (sym (own-state mid new takes so)) (sound_replay mid.told.state takes sound (own-legal mid.told.state takes so.answered))

-- and nothing waits any more
pub given-due : (mid new : Place) (outs : List Out) (lost : Bool) → IsDue mid.told outs lost → HasGiven mid new → IsDue new.told [] lost
given-due mid new [] lost is so =
    let conn = mid.told.conn in
    let none : taking conn mid.told.state ≡ [] = rw is.only (rw (same conn.0) refl) in
    let state : new.told.state ≡ mid.told.state = own-state mid new (taking conn mid.told.state) so ∙ ap (replay mid.told.state) none in
    record {
      sound = given-sound mid new is.sound so;
      taken = is.taken;
      only = ap (λ (s : State). s.connections.rows) state ∙ is.only ∙ ap (λ c. due_row c [] lost is.taken ∷ []) (sym so.same.conn);
    }
given-due mid new (out ∷ outs) lost is so =
    let conn = mid.told.conn in
    let some : taking conn mid.told.state ≡ event.Take conn ∷ [] =
    rw is.only (rw (same conn.0) (ap (λ b. cond b (event.Take conn ∷ []) []) (lt-ltb 0 (length (out ∷ outs)) (omega arith)))) in
    let state : new.told.state ≡ step mid.told.state (event.Take conn) = own-state mid new (taking conn mid.told.state) so ∙ ap (replay mid.told.state) some in
    let rows : new.told.state.connections.rows ≡ changed conn emptied (due_row conn (out ∷ outs) lost is.taken ∷ []) =
    ap (λ (s : State). s.connections.rows) state ∙ ap (changed conn emptied) is.only in
    let count = (emptied (due_row conn (out ∷ outs) lost is.taken)).taken in
    let row : changed conn emptied (due_row conn (out ∷ outs) lost is.taken ∷ []) ≡ due_row conn [] lost count ∷ [] =
    rw (same conn.0) refl in
    record {
      sound = given-sound mid new is.sound so;
      taken = count;
      only = rows ∙ row ∙ ap (λ c. due_row c [] lost count ∷ []) (sym so.same.conn);
    }

pub given-idle : (mid new : Place) → IsDue mid.told (owed mid.told) (has_lost mid.told) → HasGiven mid new → IsIdle new.told
given-idle mid new is so = due-idle new.told (has_lost mid.told) (given-due mid new (owed mid.told) (has_lost mid.told) is so)

-- if no output was lost, none is afterwards
pub given-kept : (mid new : Place) → IsDue mid.told (owed mid.told) (has_lost mid.told) → has_lost mid.told ≡ false → HasGiven mid new → IsOwed new.told []
given-kept mid new is kept so = given-due mid new (owed mid.told) false (subst (λ b. IsDue mid.told (owed mid.told) b) kept is) so
