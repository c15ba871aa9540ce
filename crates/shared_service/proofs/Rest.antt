-- Connections for which nothing waits: what becomes of their list, and that a take of another leaves them so.
use Rattle.std.proofs.Common.{◌≡◌, ℕ, zero, suc, ◌<◌, ◌≤◌, Bool, true, false, ◌||◌, nat_lt, ◌==◌, List, [], ◌∷◌, ◌++◌, length, remove, get_or, position, Option, Some, None, refl, sym, ap, ⊎_elim, subst, arith}
use Rattle.std.specs.Option.{option_map_or}
use Rattle.std.specs.List.{position_or_len}
use Rattle.std.proofs.lemmas.Bool.{cases_Bool}
use Rattle.std.proofs.lemmas.Bool.Decides.{nat_tests}
use Rattle.std.proofs.lemmas.List.Quantifiers.{position-Some}
use Rattle.std.proofs.lemmas.List.Sums.{fails_before_first}
use Rattle.kr_base.specs.declared.ids.ConnId.{ConnId}
use Rattle.service_desk.specs.service_tables.specs.Connections.{is_row, changed, emptied, desk_of}
use Rattle.service_desk.specs.service_events.specs.declared.event.Event.TheVariants as event
use Rattle.service_desk.specs.service_events.specs.Step.{step}
use Rattle.service_desk.specs.service_tables.specs.State.{State}
use Rattle.service_desk.specs.service_tables.specs.signal_fanout.specs.declared.rows.ConnRow.{ConnRow}
use Rattle.service_desk.specs.service_tables.specs.signal_fanout.specs.declared.rows.DeskRow.{DeskRow}
use Rattle.service_history.specs.History.{History, given_for, taken_by, told}
use Rattle.shared_service.specs.Sleepers.{has_work, AreAtRest, HasWorkAt, IsWatched, call_of}
use Rattle.shared_service.specs.declared.sleepers.Call.TheVariants as call

-- the connection with a number
abbrev connection : ℕ → ConnId
connection number = record { 0 = number }

module _ (state : State) where
  -- one of them is taken out
  pub rest_remove : (conns : List ConnId) (place : ℕ) → AreAtRest state conns → AreAtRest state (remove conns place)
  rest_remove [] zero rest = tt
  rest_remove [] (suc place) rest = tt
  rest_remove (conn ∷ conns) zero rest = rest.1
  rest_remove (conn ∷ conns) (suc place) rest = (rest.0, rest_remove conns place rest.1)

  -- one more is added
  pub rest_push : (conns : List ConnId) (conn : ConnId) → has_work state conn ≡ false → AreAtRest state conns → AreAtRest state (conns ++ conn ∷ [])
  rest_push [] conn none rest = (none, tt)
  rest_push (first ∷ conns) conn none rest = (rest.0, rest_push conns conn none rest.1)

  rest-each : (conns : List ConnId) → ((place : ℕ) (other : ConnId) → place < length conns → has_work state (get_or conns place other) ≡ false) → AreAtRest state conns
  rest-each [] each = tt
  rest-each (conn ∷ conns) each = (each 0 conn (omega arith), rest-each conns (λ place other less. each (suc place) other (omega arith)))

  -- a search for the first with work finds none
  pub rest_none : (conns : List ConnId) → position (has_work state) conns ≡ None → AreAtRest state conns
  rest_none conns none =
      rest-each conns (λ place other less.
      ⊎_elim
      (λ is. (let wrong : Some (position_or_len (has_work state) conns) ≡ None = rw is at none in absurd cc))
      (λ off. (let far : length conns ≤ position_or_len (has_work state) conns = grind (arith, nat_tests) in fails_before_first (has_work state) conns place other (omega arith)))
      (cases_Bool (nat_lt (position_or_len (has_work state) conns) (length conns))))

  -- or it finds one
  pub work_first : (conns : List ConnId) (place : ℕ) → position (has_work state) conns ≡ Some place → HasWorkAt state conns place
  work_first conns place found = ((position-Some (has_work state) conns place (connection 0) found).0, (λ other. (position-Some (has_work state) conns place other found).1))

  -- the caller's place is found, and it has work
  pub work_own : (conns : List ConnId) (caller : ConnId) (place : ℕ) → position (λ (other : ConnId). other.0 == caller.0) conns ≡ Some place → has_work state caller ≡ true → HasWorkAt state conns place
  work_own conns caller place found work = (
    (position-Some (λ (other : ConnId). other.0 == caller.0) conns place caller found).0,
    (λ other.
        let at : ((get_or conns place other).0 == caller.0) ≡ true = (position-Some (λ (other : ConnId). other.0 == caller.0) conns place other found).1 in
        let number : (get_or conns place other).0 ≡ caller.0 = grind (arith, nat_tests) in
        subst (λ (conn : ConnId). has_work state conn ≡ true) (sym (ap connection number)) work),
  )

  -- what is taken out at such a place has work
  pub work_at : (conns : List ConnId) (place : ℕ) (conn : ConnId) → conn ≡ get_or conns place conn → HasWorkAt state conns place → has_work state conn ≡ true
  work_at conns place conn is work = subst (λ (one : ConnId). has_work state one ≡ true) (sym is) (work.1 conn)

  pub watched_remove : (conns : List ConnId) (place : ℕ) (due : Bool) → IsWatched state conns due → IsWatched state (remove conns place) due
  watched_remove conns place due watched = λ none. rest_remove conns place (watched none)

  pub watched_push : (conns : List ConnId) (conn : ConnId) (due : Bool) → has_work state conn ≡ false → IsWatched state conns due → IsWatched state (conns ++ conn ∷ []) due
  watched_push conns conn due quiet watched = λ none. rest_push conns conn quiet (watched none)

  pub watched_due : (conns : List ConnId) → IsWatched state conns true
  watched_due conns = λ wrong. absurd cc

-- whether there is work, by the status of a connection
abbrev works : Option DeskRow → Bool
works desk = option_map_or (λ (desk : DeskRow). desk.waits || desk.overrun || desk.leaving) desk true

quiet : (a b c : Bool) → (a || b || c) ≡ false → (false || b || c) ≡ false
quiet false b c none = none
quiet true b c none = absurd cc

emptied-at : (taker conn : ConnId) (row : ConnRow) (rows : List ConnRow) (takes here : Bool) → is_row taker row ≡ takes → is_row conn row ≡ here
    → (works (desk_of conn rows) ≡ false → works (desk_of conn (changed taker emptied rows)) ≡ false)
    → works (desk_of conn (row ∷ rows)) ≡ false → works (desk_of conn (changed taker emptied (row ∷ rows))) ≡ false
emptied-at taker conn row rows true true is same rest none = rw (is, same) (quiet (nat_lt 0 (length row.waiting)) row.overrun row.leaving (rw same at none))
emptied-at taker conn row rows false true is same rest none = rw (is, same) (rw same at none)
emptied-at taker conn row rows true false is same rest none = rw (is, same) (rest (rw same at none))
emptied-at taker conn row rows false false is same rest none = rw (is, same) (rest (rw same at none))

-- what a connection takes makes no work for any
emptied-rest : (taker conn : ConnId) (rows : List ConnRow) → works (desk_of conn rows) ≡ false → works (desk_of conn (changed taker emptied rows)) ≡ false
emptied-rest taker conn [] none = none
emptied-rest taker conn (row ∷ rows) none = emptied-at taker conn row rows (is_row taker row) (is_row conn row) refl refl (emptied-rest taker conn rows) none

emptied-all : (taker : ConnId) (state : State) (conns : List ConnId) → AreAtRest state conns → AreAtRest (step state (event.Take taker)) conns
emptied-all taker state [] rest = tt
emptied-all taker state (conn ∷ conns) rest = (emptied-rest taker conn state.connections.rows rest.0, emptied-all taker state conns rest.1)

module _ (conn : ConnId) (service : History) where
  -- a take that tells nobody anything leaves those at rest for which nothing waits
  pub taken-rest : (desk : Option DeskRow) → (call_of (given_for conn service.state desk) ≡ call.Tells → ⊥) → (conns : List ConnId) → AreAtRest service.state conns → AreAtRest (taken_by conn desk service).state conns
  taken-rest None quiet conns rest = rest
  taken-rest (Some desk) quiet conns rest = by desk.waits desk.overrun desk.leaving quiet
    where
      by : (waits overrun leaving : Bool) → (call_of (given_for conn service.state (Some (record { waits = waits; overrun = overrun; leaving = leaving }))) ≡ call.Tells → ⊥)
          → AreAtRest (taken_by conn (Some (record { waits = waits; overrun = overrun; leaving = leaving })) service).state conns
      by true overrun leaving quiet = emptied-all conn service.state conns rest
      by false true true quiet = rest
      by false true false quiet = rest
      by false false true quiet = absurd (quiet refl)
      by false false false quiet = rest

  -- a take that finds nothing to return yet leaves nothing that waits for its connection
  pub taken-sleeps : (desk : Option DeskRow) → desk ≡ told conn service → call_of (given_for conn service.state desk) ≡ call.Sleeps → has_work (taken_by conn desk service).state conn ≡ false
  taken-sleeps None is sleeps = absurd cc
  taken-sleeps (Some desk) is sleeps = by desk.waits desk.overrun desk.leaving is sleeps
    where
      by : (waits overrun leaving : Bool) → Some (record { waits = waits; overrun = overrun; leaving = leaving }) ≡ told conn service
          → call_of (given_for conn service.state (Some (record { waits = waits; overrun = overrun; leaving = leaving }))) ≡ call.Sleeps
          → has_work (taken_by conn (Some (record { waits = waits; overrun = overrun; leaving = leaving })) service).state conn ≡ false
      by true overrun leaving is sleeps = absurd cc
      by false true leaving is sleeps = absurd cc
      by false false true is sleeps = absurd cc
      by false false false is sleeps = sym (ap works is)
