-- What is true of each message that an event puts out, and of each that waits at first, is true of each that waits after the events.
use Rattle.std.proofs.Common.{◌≡◌, ℕ, suc, ◌+◌, ◌==◌, Bool, true, false, nat_le, not, cond, List, [], ◌∷◌, ◌++◌, map, Contains, refl, sym, subst}
use Rattle.std.specs.List.{AllByRecursion}
use Rattle.std.proofs.lemmas.Bool.{eqb-true}
use Rattle.std.proofs.lemmas.List.Elements.{All-contains, All-contains_itself, All-from_recursion, recursion_from_All}
use Rattle.kr_base.specs.declared.ids.ConnId.{ConnId}
use Rattle.service_events.specs.secret_calls.specs.declared.out.Out.{Out}
use Rattle.service_events.specs.secret_calls.specs.Outs.{most_waiting}
use Rattle.service_events.specs.service_tables.specs.Connections.{changed, delivered, emptied, given_out, is_row, left, new_row, size_of, size_waiting, waiting_for, with_out}
use Rattle.service_events.specs.service_tables.specs.Opened.{Contents, opened_state}
use Rattle.service_events.specs.service_tables.specs.State.{State}
use Rattle.service_events.specs.service_tables.specs.signal_fanout.specs.declared.rows.ConnRow.{ConnRow}
use Rattle.service_events.specs.service_tables.specs.declared.rows.ConnRows.{ConnRows}
use Rattle.service_events.specs.service_tables.specs.Sent.{Sent, is_for}
use Rattle.service_events.specs.service_tables.proofs.EachLemmas.{each-append, each-filter}
use Rattle.service_events.specs.declared.event.Derivation.{Derivation}
use Rattle.service_events.specs.declared.event.Event.{Event}
use Rattle.service_events.specs.declared.event.Event.TheVariants as event
use Rattle.service_events.specs.Derivation.{derived}
use Rattle.service_events.specs.Replay.{replay}
use Rattle.service_events.specs.Run.{asked}
use Rattle.service_events.specs.Step.{brought_derived, finished, put_out, puts_out, served, step, terms_of}
use Rattle.service_events.proofs.RunLemmas.{connections-run, connections-served}
use Rattle.machine_laws.specs.Delivery.{PutsOutAt, WasPutOut}

-- ---- the connections after a derived key, before its signals are delivered

connections-finished : (came : Derivation) (state : State) → (finished came state).state.connections ≡ state.connections
connections-finished came state =
    let brought = brought_derived came in
    connections-run came.conn brought (derived came.prompt came.round (terms_of came) (asked came.conn brought state)) came.fates state

-- ---- rows of connections

module _ (Q : ℕ → Out → Type 0) where
  -- it is true of each message that waits for the row's connection, by its number
  abbrev WaitsWith : ConnRow → Type 0
  WaitsWith row = AllByRecursion (Q row.conn.0) row.waiting

  -- the same of each row
  abbrev AllWait : List ConnRow → Type 0
  AllWait rows = AllByRecursion WaitsWith rows

  -- it is true of a message on its way, for each connection to which it goes
  abbrev IsOnWay : Sent → Type 0
  IsOnWay sent = (conn : ConnId) → is_for sent.to conn ≡ true → Q conn.0 sent.out

  wait-map : (change : ConnRow → ConnRow) → ((row : ConnRow) → WaitsWith row → WaitsWith (change row)) → (rows : List ConnRow) → AllWait rows → AllWait (map change rows)
  wait-map change keeps [] all = tt
  wait-map change keeps (row ∷ rows) all = (keeps row all.0, wait-map change keeps rows all.1)

  wait-changed : (conn : ConnId) (change : ConnRow → ConnRow) → ((row : ConnRow) → row.conn.0 ≡ conn.0 → WaitsWith row → WaitsWith (change row)) → (rows : List ConnRow) → AllWait rows
      → AllWait (changed conn change rows)
  wait-changed conn change keeps rows all =
      let one : (row : ConnRow) → WaitsWith row → WaitsWith (cond (is_row conn row) (change row) row) =
      λ row wait.
      let pass : (b : Bool) → (row.conn.0 == conn.0) ≡ b → WaitsWith (cond b (change row) row) = elim [ true ↦ λ is. keeps row (eqb-true row.conn.0 conn.0 is) wait | false ↦ λ is. wait ] in
      pass (row.conn.0 == conn.0) refl in
      wait-map (λ row. cond (is_row conn row) (change row) row) one rows all

  wait-out : (message : Out) (row : ConnRow) → Q row.conn.0 message → WaitsWith row → WaitsWith (with_out message row)
  wait-out message row here wait =
      let fits : (b : Bool) → WaitsWith (cond b (record row { waiting = row.waiting ++ message ∷ [] }) (record row { overrun = true })) =
      elim [ true ↦ each-append (Q row.conn.0) row.waiting (message ∷ []) wait (here, tt) | false ↦ wait ] in
      let pass : (lost fit : Bool) → WaitsWith (cond lost row (cond fit (record row { waiting = row.waiting ++ message ∷ [] }) (record row { overrun = true }))) =
      elim [ true ↦ λ fit. wait | false ↦ fits ] in
      pass row.overrun (nat_le (size_waiting row.waiting + size_of message) most_waiting)

  wait-given : (sent : Sent) → IsOnWay sent → (rows : List ConnRow) → AllWait rows → AllWait (given_out sent rows)
  wait-given sent is =
      wait-map (λ row. cond (is_for sent.to row.conn) (with_out sent.out row) row)
      (λ row wait.
      let pass : (b : Bool) → is_for sent.to row.conn ≡ b → WaitsWith (cond b (with_out sent.out row) row) = elim [ true ↦ λ its. wait-out sent.out row (is row.conn its) wait | false ↦ λ other. wait ] in
      pass (is_for sent.to row.conn) refl)

  wait-delivered : (sent : List Sent) → AllByRecursion IsOnWay sent → (rows : List ConnRow) → AllWait rows → AllWait (delivered sent rows)
  wait-delivered [] are rows all = all
  wait-delivered (one ∷ more) are rows all = wait-delivered more are.1 (given_out one rows) (wait-given one are.0 rows all)

  -- ---- an event

  wait-step : (state : State) (event : Event) → AllByRecursion IsOnWay (puts_out state event) → AllWait state.connections.rows → AllWait (step state event).connections.rows
  wait-step state (event.Connect conn) are all = each-append WaitsWith state.connections.rows (new_row conn ∷ []) all (tt, tt)
  wait-step state (event.Arrive came) are all =
      wait-delivered (put_out came.arrival.conn came.arrival.request (served came state)) are (served came state).state.connections.rows
      (subst (λ (c : ConnRows). AllWait c.rows) (sym (connections-served came state)) all)
  wait-step state (event.Derived came) are all =
      wait-delivered (finished came state).sends are (finished came state).state.connections.rows (subst (λ (c : ConnRows). AllWait c.rows) (sym (connections-finished came state)) all)
  wait-step state (event.Leave conn) are all = wait-changed conn left (λ row its wait. wait) state.connections.rows all
  wait-step state (event.Take conn) are all = wait-changed conn emptied (λ row its wait. tt) state.connections.rows all
  wait-step state (event.Gone conn) are all = each-filter WaitsWith (λ row. not (is_row conn row)) state.connections.rows all

  -- what each message that the event puts out is
  each-put : (state : State) (event : Event) → ((sent : Sent) → Contains (puts_out state event) sent → IsOnWay sent) → AllByRecursion IsOnWay (puts_out state event)
  each-put state event says =
      let sent = puts_out state event in
      recursion_from_All IsOnWay sent (λ k d within. says _ (All-contains_itself sent k d within))

  -- ---- a list of events

  wait-replay : (start : State) (events : List Event) → AllWait start.connections.rows → ((place : ℕ) (sent : Sent) → PutsOutAt start events place sent → IsOnWay sent)
      → AllWait (replay start events).connections.rows
  wait-replay start [] all says = all
  wait-replay start (event ∷ events) all says =
      wait-replay (step start event) events (wait-step start event (each-put start event (λ sent is. says 0 sent is)) all) (λ place sent is. says (suc place) sent is)

  wait-for : (conn : ConnId) (rows : List ConnRow) → AllWait rows → AllByRecursion (Q conn.0) (waiting_for conn rows)
  wait-for conn [] all = tt
  wait-for conn (row ∷ rows) all =
      let pass : (b : Bool) → (row.conn.0 == conn.0) ≡ b → AllByRecursion (Q conn.0) (cond b row.waiting (waiting_for conn rows)) =
      elim [ true ↦ λ is. subst (λ n. AllByRecursion (Q n) row.waiting) (eqb-true row.conn.0 conn.0 is) all.0 | false ↦ λ is. wait-for conn rows all.1 ] in
      pass (row.conn.0 == conn.0) refl

pub waiting_put_out : (contents : Contents) (events : List Event) (conn : ConnId) (message : Out) → Contains (waiting_for conn (replay (opened_state contents) events).connections.rows) message
    → WasPutOut (opened_state contents) events conn message
waiting_put_out contents events conn message there =
    let start = opened_state contents in
    let rows = (replay start events).connections.rows in
    let all = wait-replay (λ number out. WasPutOut start events (record { 0 = number }) out) start events tt (λ place sent is conn its. (place, sent.to, its, is)) in
    let waiting = waiting_for conn rows in
    All-contains (λ out. WasPutOut start events conn out) waiting message
    (All-from_recursion (λ out. WasPutOut start events conn out) waiting (wait-for (λ number out. WasPutOut start events (record { 0 = number }) out) conn rows all)) there
