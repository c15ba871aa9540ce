-- What changes of the connections and of the sessions leave sound.
use Rattle.std.proofs.Common.{◌≡◌, ℕ, ◌+◌, ◌<◌, ◌≤◌, ◌==◌, Bool, true, false, not, nat_le, nat_lt, cond, List, [], ◌∷◌, ◌++◌, if◌then◌else◌, length, filter, map, refl, ap, sym, subst, ◌∙◌, arith, length-append, inl, inr}
use Rattle.std.specs.List.{AllByRecursion}
use Rattle.std.proofs.lemmas.Bool.{or_left, or_right, or_cases, leb-true}
use Rattle.std.proofs.lemmas.Bool.Decides.{nat_tests}
use Rattle.std.proofs.lemmas.List.{length-map}
use Rattle.std.proofs.lemmas.List.Elements.{filter-append}
use Rattle.std.proofs.lemmas.List.Sums.{sum_by-append}
use Rattle.kr_base.specs.declared.ids.ConnId.{ConnId}
use Rattle.session_table.specs.declared.row.SessionRow.{SessionRow}
use Rattle.signal_fanout.specs.secret_calls.specs.declared.out.Out.{Out}
use Rattle.signal_fanout.specs.secret_calls.specs.Outs.{HasSpelling, most_waiting}
use Rattle.session_table.specs.declared.row.Sessions.{Sessions}
use Rattle.session_table.specs.Sessions.{rows_of, opened, abandoned, most_sessions, last_session}
use Rattle.signal_fanout.specs.declared.rows.ConnRow.{ConnRow}
use Rattle.service_tables.specs.declared.rows.ConnRows.{ConnRows}
use Rattle.service_tables.specs.Connections.{new_row, joined, is_row, has, changed, without, size_of, size_waiting, with_out}
use Rattle.service_tables.specs.Limits.{most_connections}
use Rattle.service_tables.specs.Sound.{AreJoined, AreApart, WaitsWell, AreWaiting, AreOpened, AreOnce, AreFew, AreSoundConnections, AreSoundSessions, IsSpelled}
use Rattle.service_tables.proofs.EachLemmas.{each-append, each-filter, each-weaker, each-passing}

-- what isn't true is false
not_true : (b : Bool) → not b ≡ true → b ≡ false
not_true true is = cc
not_true false is = refl

-- ---- how many of a list pass a test

-- those of a part are no more
pub fewer : {X : Type 0} (p q : X → Bool) (xs : List X) → length (filter p (filter q xs)) ≤ length (filter p xs)
fewer p q [] = omega arith
fewer p q (x ∷ xs) =
    let rest = fewer p q xs in
    let pass : (a : Bool) → q x ≡ a → (b : Bool) → p x ≡ b → length (filter p (filter q (x ∷ xs))) ≤ length (filter p (x ∷ xs)) =
    elim [
      | true ↦ λ is_q. elim [ true ↦ λ is_p. rw (is_q, is_p) (omega (arith, rest)) | false ↦ λ is_p. rw (is_q, is_p) rest ]
      | false ↦ λ is_q. elim [ true ↦ λ is_p. rw (is_q, is_p) (omega (arith, rest)) | false ↦ λ is_p. rw (is_q, is_p) rest ]
    ] in
    pass (q x) refl (p x) refl

-- nor are those of two parts that have nothing in common
pub apart_fewer : {X : Type 0} (p q r : X → Bool) → ((x : X) → q x ≡ true → r x ≡ true → ⊥) → (xs : List X)
    → length (filter p (filter q xs)) + length (filter p (filter r xs)) ≤ length (filter p xs)
apart_fewer p q r apart [] = omega arith
apart_fewer p q r apart (x ∷ xs) =
    let rest = apart_fewer p q r apart xs in
    let pass : (a : Bool) → q x ≡ a → (b : Bool) → r x ≡ b → (c : Bool) → p x ≡ c
    → length (filter p (filter q (x ∷ xs))) + length (filter p (filter r (x ∷ xs))) ≤ length (filter p (x ∷ xs)) =
    elim [
      | true ↦ λ is_q. elim [
        | true ↦ λ is_r c is_p. absurd (apart x is_q is_r)
        | false ↦ λ is_r. elim [ true ↦ λ is_p. rw (is_q, is_r, is_p) (omega (arith, rest)) | false ↦ λ is_p. rw (is_q, is_r, is_p) rest ]
      ]
      | false ↦ λ is_q. elim [
        | true ↦ λ is_r. elim [ true ↦ λ is_p. rw (is_q, is_r, is_p) (omega (arith, rest)) | false ↦ λ is_p. rw (is_q, is_r, is_p) rest ]
        | false ↦ λ is_r. elim [ true ↦ λ is_p. rw (is_q, is_r, is_p) (omega (arith, rest)) | false ↦ λ is_p. rw (is_q, is_r, is_p) rest ]
      ]
    ] in
    pass (q x) refl (r x) refl (p x) refl

-- one more between two such parts
pub between_fewer : {X : Type 0} (p q r : X → Bool) (x : X) → ((y : X) → q y ≡ true → r y ≡ true → ⊥) → (xs : List X)
    → length (filter p (filter q xs ++ x ∷ filter r xs)) ≤ length (filter p xs) + (if p x then 1 else 0)
between_fewer p q r x apart xs =
    let both = apart_fewer p q r apart xs in
    let split : length (filter p (filter q xs ++ x ∷ filter r xs)) ≡ length (filter p (filter q xs)) + length (filter p (x ∷ filter r xs)) =
    ap length (filter-append p (filter q xs) (x ∷ filter r xs)) ∙ length-append (filter p (filter q xs)) (filter p (x ∷ filter r xs)) in
    let pass : (b : Bool) → p x ≡ b → length (filter p (filter q xs ++ x ∷ filter r xs)) ≤ length (filter p xs) + (if p x then 1 else 0) =
    elim [
      | true ↦ λ is. let one : length (filter p (x ∷ filter r xs)) ≡ 1 + length (filter p (filter r xs)) = rw is (omega arith) in rw is (omega (arith, both, split, one))
      | false ↦ λ is. let none : length (filter p (x ∷ filter r xs)) ≡ length (filter p (filter r xs)) = rw is refl in rw is (omega (arith, both, split, none))
    ] in
    pass (p x) refl

-- ---- connections: a change of a row keeps its number

-- a change of rows that keeps their numbers
abbrev pub KeepsNumber : (ConnRow → ConnRow) → Type 0
KeepsNumber change = (row : ConnRow) → (change row).conn ≡ row.conn

-- the row that stands for one after a change of a connection's row
abbrev pub after : ConnId → (ConnRow → ConnRow) → ConnRow → ConnRow
after conn change row = cond (is_row conn row) (change row) row

pub after-number : (conn : ConnId) (change : ConnRow → ConnRow) → KeepsNumber change → (row : ConnRow) → (after conn change row).conn ≡ row.conn
after-number conn change keeps row =
    let pass : (b : Bool) → is_row conn row ≡ b → (after conn change row).conn ≡ row.conn =
    elim [ true ↦ λ is. rw is (keeps row) | false ↦ λ is. rw is refl ] in
    pass (is_row conn row) refl

pub joined-mapped : (next : ℕ) (change : ConnRow → ConnRow) → KeepsNumber change → (rows : List ConnRow) → AreJoined next rows → AreJoined next (map change rows)
joined-mapped next change keeps [] all = tt
joined-mapped next change keeps (row ∷ rows) all = (rw (keeps row) all.0, joined-mapped next change keeps rows all.1)

above-mapped : (number : ℕ) (change : ConnRow → ConnRow) → KeepsNumber change → (rows : List ConnRow)
    → AllByRecursion (λ other. number < other.conn.0) rows → AllByRecursion (λ other. number < other.conn.0) (map change rows)
above-mapped number change keeps [] all = tt
above-mapped number change keeps (row ∷ rows) all = (rw (keeps row) all.0, above-mapped number change keeps rows all.1)

apart-mapped : (change : ConnRow → ConnRow) → KeepsNumber change → (rows : List ConnRow) → AreApart rows → AreApart (map change rows)
apart-mapped change keeps [] all = tt
apart-mapped change keeps (row ∷ rows) all = (rw (keeps row) (above-mapped row.conn.0 change keeps rows all.0), apart-mapped change keeps rows all.1)

pub has-mapped : (other : ConnId) (change : ConnRow → ConnRow) → KeepsNumber change → (rows : List ConnRow) → has other (map change rows) ≡ has other rows
has-mapped other change keeps [] = refl
has-mapped other change keeps (row ∷ rows) = rw (keeps row, has-mapped other change keeps rows) refl

pub has-changed : (other conn : ConnId) (change : ConnRow → ConnRow) → KeepsNumber change → (rows : List ConnRow) → has other (changed conn change rows) ≡ has other rows
has-changed other conn change keeps rows = has-mapped other (after conn change) (after-number conn change keeps) rows

waiting-mapped : (change : ConnRow → ConnRow) → ((row : ConnRow) → WaitsWell row → WaitsWell (change row)) → (rows : List ConnRow) → AreWaiting rows → AreWaiting (map change rows)
waiting-mapped change well [] all = tt
waiting-mapped change well (row ∷ rows) all = (well row all.0, waiting-mapped change well rows all.1)

pub after-well : (conn : ConnId) (change : ConnRow → ConnRow) → ((row : ConnRow) → WaitsWell row → WaitsWell (change row)) → (row : ConnRow) → WaitsWell row → WaitsWell (after conn change row)
after-well conn change well row is =
    let pass : (b : Bool) → WaitsWell (cond b (change row) row) = elim [ true ↦ well row is | false ↦ is ] in
    pass (is_row conn row)

-- connections with a change of each
pub connections-mapped : (change : ConnRow → ConnRow) → KeepsNumber change → ((row : ConnRow) → WaitsWell row → WaitsWell (change row)) → (connections : ConnRows)
    → AreSoundConnections connections → AreSoundConnections (record connections { rows = map change connections.rows })
connections-mapped change keeps well connections sound = record {
  joined = joined-mapped connections.next change keeps connections.rows sound.joined;
  apart = apart-mapped change keeps connections.rows sound.apart;
  few = rw (length-map connections.rows change) sound.few;
  waiting = waiting-mapped change well connections.rows sound.waiting;
}

-- connections with a change of one
pub connections-changed : (conn : ConnId) (change : ConnRow → ConnRow) → KeepsNumber change → ((row : ConnRow) → WaitsWell row → WaitsWell (change row)) → (connections : ConnRows)
    → AreSoundConnections connections → AreSoundConnections (record connections { rows = changed conn change connections.rows })
connections-changed conn change keeps well connections sound = connections-mapped (after conn change) (after-number conn change keeps) (after-well conn change well) connections sound

-- sessions among other connections, of which none is missing
pub sessions-among : (old new : List ConnRow) → ((owner : ConnId) → has owner old ≡ true → has owner new ≡ true) → (sessions : Sessions) → AreSoundSessions old sessions → AreSoundSessions new sessions
sessions-among old new there sessions sound = record {
  opened = sound.opened;
  once = sound.once;
  limited = sound.limited;
  owned = each-weaker _ _ (λ row. there row.owner) sessions.rows sound.owned;
  numbered = sound.numbered;
}

pub keeps-with_out : (out : Out) → KeepsNumber (with_out out)
keeps-with_out out row =
    let inner : (c : Bool) → (cond c (record row { waiting = row.waiting ++ out ∷ [] }) (record row { overrun = true })).conn ≡ row.conn =
    elim [ true ↦ refl | false ↦ refl ] in
    let outer : (b : Bool) → (cond b row (cond (nat_le (size_waiting row.waiting + size_of out) most_waiting) (record row { waiting = row.waiting ++ out ∷ [] }) (record row { overrun = true }))).conn ≡ row.conn =
    elim [ true ↦ refl | false ↦ inner (nat_le (size_waiting row.waiting + size_of out) most_waiting) ] in
    outer row.overrun

-- one more output waits, if it is within the limit, in which case it has a spelling
pub well-with_out : (out : Out) → IsSpelled out → (row : ConnRow) → WaitsWell row → WaitsWell (with_out out row)
well-with_out out spells row well =
    let more : ConnRow = record row { waiting = row.waiting ++ out ∷ [] } in
    let lost : ConnRow = record row { overrun = true } in
    let fits : nat_le (size_waiting row.waiting + size_of out) most_waiting ≡ true → WaitsWell more = λ is. record {
      within = omega (arith, leb-true (size_waiting row.waiting + size_of out) most_waiting is, sum_by-append size_of row.waiting (out ∷ []));
      spelled = each-append HasSpelling row.waiting (out ∷ []) well.spelled (spells (omega (arith, leb-true (size_waiting row.waiting + size_of out) most_waiting is)), tt);
    } in
    let over : WaitsWell lost = record { within = well.within; spelled = well.spelled } in
    let inner : (c : Bool) → nat_le (size_waiting row.waiting + size_of out) most_waiting ≡ c → WaitsWell (cond c more lost) =
    elim [ true ↦ λ is. fits is | false ↦ λ is. over ] in
    let outer : (b : Bool) → WaitsWell (cond b row (cond (nat_le (size_waiting row.waiting + size_of out) most_waiting) more lost)) =
    elim [ true ↦ well | false ↦ inner (nat_le (size_waiting row.waiting + size_of out) most_waiting) refl ] in
    outer row.overrun

-- ---- connections: one more after all, one less

pub apart-push : (next : ℕ) (rows : List ConnRow) (row : ConnRow) → row.conn.0 ≡ next → AreJoined next rows → AreApart rows → AreApart (rows ++ row ∷ [])
apart-push next [] row is joined apart = (tt, tt)
apart-push next (first ∷ rows) row is joined apart =
    (each-append _ rows (row ∷ []) apart.0 (rw is joined.0, tt), apart-push next rows row is joined.1 apart.1)

pub apart-without : (conn : ConnId) (rows : List ConnRow) → AreApart rows → AreApart (without conn rows)
apart-without conn [] apart = tt
apart-without conn (row ∷ rows) apart =
    let pass : (b : Bool) → is_row conn row ≡ b → AreApart (without conn (row ∷ rows)) =
    elim [
      | true ↦ λ is. rw is (apart-without conn rows apart.1)
      | false ↦ λ is. rw is (each-filter _ (λ other. not (is_row conn other)) rows apart.0, apart-without conn rows apart.1)
    ] in
    pass (is_row conn row) refl

pub length-without : (conn : ConnId) (rows : List ConnRow) → length (without conn rows) ≤ length rows
length-without conn [] = omega arith
length-without conn (row ∷ rows) =
    let pass : (b : Bool) → is_row conn row ≡ b → length (without conn (row ∷ rows)) ≤ length (row ∷ rows) =
    elim [
      | true ↦ λ is. rw is (omega (arith, length-without conn rows))
      | false ↦ λ is. rw is (omega (arith, length-without conn rows))
    ] in
    pass (is_row conn row) refl

pub has-push : (other : ConnId) (rows : List ConnRow) (row : ConnRow) → has other rows ≡ true → has other (rows ++ row ∷ []) ≡ true
has-push other [] row there = cc
has-push other (first ∷ rows) row there =
    elim (or_cases (is_row other first) (has other rows) there) [
      | inl here ↦ or_left (is_row other first) (has other (rows ++ row ∷ [])) here
      | inr later ↦ or_right (is_row other first) (has other (rows ++ row ∷ [])) (has-push other rows row later)
    ]

pub has-without : (other conn : ConnId) (rows : List ConnRow) → (other.0 == conn.0) ≡ false → has other rows ≡ true → has other (without conn rows) ≡ true
has-without other conn [] differs there = cc
has-without other conn (row ∷ rows) differs there =
    let pass : (b : Bool) → is_row conn row ≡ b → has other (without conn (row ∷ rows)) ≡ true =
    elim [
      | true ↦ λ is.
          let apart : is_row other row ≡ false = grind (arith, nat_tests) in
          let further : has other rows ≡ true = rw apart at there in
          rw is (has-without other conn rows differs further)
      | false ↦ λ is.
          rw is (elim (or_cases (is_row other row) (has other rows) there) [
            | inl here ↦ or_left (is_row other row) (has other (without conn rows)) here
            | inr later ↦ or_right (is_row other row) (has other (without conn rows)) (has-without other conn rows differs later)
          ])
    ] in
    pass (is_row conn row) refl

-- connections with one more
pub connections-joined : (conn : ConnId) (connections : ConnRows) → conn.0 ≡ connections.next → length connections.rows < most_connections → AreSoundConnections connections
    → AreSoundConnections (joined conn connections)
connections-joined conn connections is room sound = record {
  joined = each-append _ connections.rows (new_row conn ∷ []) (each-weaker (λ row. row.conn.0 < connections.next) _ (λ row below. omega (arith, below)) connections.rows sound.joined) (omega (arith, is), tt);
  apart = apart-push connections.next connections.rows (new_row conn) is sound.joined sound.apart;
  few = rw length-append (omega (arith, room));
  waiting = each-append _ connections.rows (new_row conn ∷ []) sound.waiting (record { within = omega arith; spelled = tt }, tt);
}

-- connections without one
pub connections-without : (conn : ConnId) (connections : ConnRows) → AreSoundConnections connections → AreSoundConnections (record connections { rows = without conn connections.rows })
connections-without conn connections sound = record {
  joined = each-filter _ _ connections.rows sound.joined;
  apart = apart-without conn connections.rows sound.apart;
  few = omega (arith, length-without conn connections.rows, sound.few);
  waiting = each-filter _ _ connections.rows sound.waiting;
}

-- ---- sessions: one more, one less, all of an owner less

pub opened-longer : (next : ℕ) (rows : List SessionRow) → AreOpened next rows → AreOpened (next + 1) rows
opened-longer next rows all = each-weaker _ _ (λ row below. omega (arith, below)) rows all

-- the two parts between which a session is opened have nothing in common
parts-apart : (owner : ℕ) (row : SessionRow) → nat_le row.owner.0 owner ≡ true → nat_lt owner row.owner.0 ≡ true → ⊥
parts-apart owner row first second = grind (arith, nat_tests)

-- no session has the next number
none-next : (next : ℕ) (rows : List SessionRow) → AreOpened next rows → length (filter (λ row. row.session.0 == next) rows) ≡ 0
none-next next [] all = refl
none-next next (row ∷ rows) all =
    let not_it : (row.session.0 == next) ≡ false = let below : row.session.0 < next = all.0 in grind (arith, nat_tests) in
    rw not_it (none-next next rows all.1)

-- one more session
once-opened : (caller : ConnId) (sessions : Sessions) → AreOpened sessions.next sessions.rows → AreOnce sessions.rows → AreOnce (opened caller sessions).rows
once-opened caller sessions given once number =
    let new : SessionRow = record { owner = caller; session = record { 0 = sessions.next } } in
    let some = between_fewer (λ row. row.session.0 == number) (λ row. nat_le row.owner.0 caller.0) (λ row. nat_lt caller.0 row.owner.0) new (parts-apart caller.0) sessions.rows in
    let was = once number in
    let pass : (b : Bool) → (sessions.next == number) ≡ b → length (filter (λ row. row.session.0 == number) (opened caller sessions).rows) ≤ 1 =
    elim [
      | true ↦ λ is.
          let same : sessions.next ≡ number = grind (arith, nat_tests) in
          let none : length (filter (λ row. row.session.0 == number) sessions.rows) ≡ 0 =
          ap (λ n. length (filter (λ row. row.session.0 == n) sessions.rows)) (sym same) ∙ none-next sessions.next sessions.rows given in
          omega (arith, rw is at some, none)
      | false ↦ λ is. omega (arith, rw is at some, was)
    ] in
    pass (sessions.next == number) refl

limited-opened : (caller : ConnId) (sessions : Sessions) → length (rows_of caller sessions.rows) < most_sessions → AreFew sessions.rows → AreFew (opened caller sessions).rows
limited-opened caller sessions left limited owner =
    let new : SessionRow = record { owner = caller; session = record { 0 = sessions.next } } in
    let some = between_fewer (λ row. row.owner.0 == owner.0) (λ row. nat_le row.owner.0 caller.0) (λ row. nat_lt caller.0 row.owner.0) new (parts-apart caller.0) sessions.rows in
    let was = limited owner in
    let pass : (b : Bool) → (caller.0 == owner.0) ≡ b → length (rows_of owner (opened caller sessions).rows) ≤ most_sessions =
    elim [
      | true ↦ λ is.
          let same : caller.0 ≡ owner.0 = grind (arith, nat_tests) in
          let here : length (filter (λ row. row.owner.0 == owner.0) sessions.rows) < most_sessions =
          subst (λ n. length (filter (λ (row : SessionRow). row.owner.0 == n) sessions.rows) < most_sessions) same left in
          omega (arith, rw is at some, here)
      | false ↦ λ is. omega (arith, rw is at some, was)
    ] in
    pass (caller.0 == owner.0) refl

pub sessions-opened : (caller : ConnId) (rows : List ConnRow) (sessions : Sessions) → has caller rows ≡ true → length (rows_of caller sessions.rows) < most_sessions → sessions.next < last_session
    → AreSoundSessions rows sessions → AreSoundSessions rows (opened caller sessions)
sessions-opened caller rows sessions there left number sound = record {
  opened = each-append _ _ _ (each-filter _ _ sessions.rows (opened-longer sessions.next sessions.rows sound.opened))
      (omega arith, each-filter _ _ sessions.rows (opened-longer sessions.next sessions.rows sound.opened));
  once = once-opened caller sessions sound.opened sound.once;
  limited = limited-opened caller sessions left sound.limited;
  owned = each-append _ _ _ (each-filter _ _ sessions.rows sound.owned) (there, each-filter _ _ sessions.rows sound.owned);
  numbered = omega (arith, number);
}

-- fewer sessions
pub sessions-fewer : (rows : List ConnRow) (p : SessionRow → Bool) (sessions : Sessions) → AreSoundSessions rows sessions → AreSoundSessions rows (record sessions { rows = filter p sessions.rows })
sessions-fewer rows p sessions sound = record {
  opened = each-filter _ _ sessions.rows sound.opened;
  once = λ number. omega (arith, sound.once number, fewer (λ row. row.session.0 == number) p sessions.rows);
  limited = λ owner. omega (arith, sound.limited owner, fewer (λ row. row.owner.0 == owner.0) p sessions.rows);
  owned = each-filter _ _ sessions.rows sound.owned;
  numbered = sound.numbered;
}

-- those of a connection that goes are none of the others'
pub sessions-without : (conn : ConnId) (rows : List ConnRow) (sessions : Sessions) → AreSoundSessions rows sessions → AreSoundSessions (without conn rows) (abandoned conn sessions)
sessions-without conn rows sessions sound =
    let left = sessions-fewer rows (λ row. not (row.owner.0 == conn.0)) sessions sound in
    record {
      opened = left.opened;
      once = left.once;
      limited = left.limited;
      owned = each-passing _ _ (λ row. not (row.owner.0 == conn.0)) (λ row passes there. has-without row.owner conn rows (not_true (row.owner.0 == conn.0) passes) there) sessions.rows sound.owned;
      numbered = left.numbered;
    }
