-- The deliveries of what is sent lead to the rows in which each recipient has got its outputs.
use Rattle.std.proofs.Common.{◌≡◌, subst, ℕ, ◌==◌, Bool, true, false, ◌||◌, cond, nat_le, ◌+◌, List, [], ◌∷◌, ◌++◌, map, refl, ap, sym, ◌∙◌, Less, arith}
use Rattle.std.specs.Ordering.{nat_cmp}
use Rattle.std.specs.List.{AllByRecursion}
use Rattle.std.specs.List.Sorted.{IsStrictlySortedBy}
use Rattle.std.specs.Map.{keys_of}
use Rattle.std.proofs.lemmas.Bool.{eqb-true}
use Rattle.std.proofs.lemmas.Bool.Decides.{nat_tests}
use Rattle.std.proofs.lemmas.List.{append_assoc, map-id}
use Rattle.std.proofs.lemmas.Map.Keys.{sorted_head, sorted_tail}
use Rattle.kr_base.specs.declared.ids.ConnId.{ConnId}
use Rattle.secret_calls.specs.declared.out.Out.{Out}
use Rattle.secret_calls.specs.Outs.{most_waiting}
use Rattle.signal_fanout.specs.declared.outbox.Outbox.{Outbox}
use Rattle.signal_fanout.specs.declared.rows.ConnRow.{ConnRow}
use Rattle.signal_fanout.specs.declared.rows.Delivery.{Delivery}
use Rattle.signal_fanout.specs.Outboxes.{AreDistinct, changed, deliveries_of, delivered, for_each, given_out, handed, has, is_row, size_of, size_waiting, spread, with_out}
use Rattle.signal_fanout.specs.Boxes.{row_of}
use Rattle.signal_fanout.specs.Sent.{Sent, Recipient, One, Everyone, is_for}
use Rattle.signal_fanout.proofs.BoxLemmas.{later_differs}

-- ---- numbers

turned-false : (a b : ℕ) → (a == b) ≡ false → (b == a) ≡ false
turned-false a b is = grind (arith, nat_tests)

turned-true : (a b : ℕ) → (a == b) ≡ true → (b == a) ≡ true
turned-true a b is = grind (arith, nat_tests)

itself : (a : ℕ) → (a == a) ≡ true
itself a = grind (arith, nat_tests)

-- the numbers of a map's connections differ
has-later : (k : ℕ) (entries : List (ℕ × Outbox)) → AllByRecursion (λ later. nat_cmp k later ≡ Less) (keys_of entries) → has (record { 0 = k }) (map row_of entries) ≡ false
has-later k [] later = refl
has-later k (e ∷ es) later = rw (later_differs k k e.0 (itself k) later.0) (has-later k es later.1)

pub distinct-rows : (entries : List (ℕ × Outbox)) → IsStrictlySortedBy nat_cmp (keys_of entries) → AreDistinct (map row_of entries)
distinct-rows [] sorted = tt
distinct-rows (e ∷ es) sorted = (has-later e.0 es (sorted_head nat_cmp e.0 (keys_of es) sorted), distinct-rows es (sorted_tail nat_cmp e.0 (keys_of es) sorted))

-- ---- whose rows they are

-- whose rows these are, in order
abbrev pub conns_of : List ConnRow → List ConnId
conns_of rows = map (λ (row : ConnRow). row.conn) rows

-- one more output leaves a row its connection's
pub with-conn : (out : Out) (row : ConnRow) → (with_out out row).conn ≡ row.conn
with-conn out row =
    let fits : (b : Bool) → (cond b (record row { waiting = row.waiting ++ out ∷ [] }) (record row { overrun = true })).conn ≡ row.conn = elim [ true ↦ refl | false ↦ refl ] in
    let pass : (lost fit : Bool) → (cond lost row (cond fit (record row { waiting = row.waiting ++ out ∷ [] }) (record row { overrun = true }))).conn ≡ row.conn =
    elim [ true ↦ λ fit. refl | false ↦ fits ] in
    pass row.overrun (nat_le (size_waiting row.waiting + size_of out) most_waiting)

conns-map : (change : ConnRow → ConnRow) → ((row : ConnRow) → (change row).conn ≡ row.conn) → (rows : List ConnRow) → conns_of (map change rows) ≡ conns_of rows
conns-map change same [] = refl
conns-map change same (row ∷ rows) = ap (λ c. c ∷ conns_of (map change rows)) (same row) ∙ ap (λ cs. row.conn ∷ cs) (conns-map change same rows)

-- so do all outputs that are delivered
pub conns-given : (sent : Sent) (rows : List ConnRow) → conns_of (given_out sent rows) ≡ conns_of rows
conns-given sent rows =
    let pass : (row : ConnRow) (b : Bool) → (cond b (with_out sent.out row) row).conn ≡ row.conn = λ row. elim [ true ↦ with-conn sent.out row | false ↦ refl ] in
    conns-map (λ row. cond (is_for sent.to row.conn) (with_out sent.out row) row) (λ row. pass row (is_for sent.to row.conn)) rows

-- whether a connection is there is said by the connections alone
abbrev among : ConnId → List ConnId → Bool
among conn [] = false
among conn (one ∷ more) = (one.0 == conn.0) || among conn more

has-among : (conn : ConnId) (rows : List ConnRow) → has conn rows ≡ among conn (conns_of rows)
has-among conn [] = refl
has-among conn (row ∷ rows) = ap (λ b. (row.conn.0 == conn.0) || b) (has-among conn rows)

has-same : (conn : ConnId) (rows others : List ConnRow) → conns_of rows ≡ conns_of others → has conn rows ≡ has conn others
has-same conn rows others same = has-among conn rows ∙ ap (among conn) same ∙ sym (has-among conn others)

-- ---- an output for each connection

module _ (out : Out) where
  -- each row of one of these connections gets the output
  abbrev given_if : List ConnRow → ConnRow → ConnRow
  given_if these row = cond (has row.conn these) (with_out out row) row

  map-once : (first second both : ConnRow → ConnRow) → ((row : ConnRow) → second (first row) ≡ both row) → (rows : List ConnRow) → map second (map first rows) ≡ map both rows
  map-once first second both same [] = refl
  map-once first second both same (row ∷ rows) = ap (λ r. r ∷ map second (map first rows)) (same row) ∙ ap (λ rs. both row ∷ rs) (map-once first second both same rows)

  one-given : (one : ConnRow) (these : List ConnRow) → has one.conn these ≡ false → (row : ConnRow)
      → given_if these (cond (is_row one.conn row) (with_out out row) row) ≡ given_if (one ∷ these) row
  one-given one these apart row =
      let pass : (b : Bool) → (row.conn.0 == one.conn.0) ≡ b → given_if these (cond b (with_out out row) row) ≡ given_if (one ∷ these) row =
      elim [
        | true ↦ λ is.
            let same : row.conn.0 ≡ one.conn.0 = eqb-true row.conn.0 one.conn.0 is in
            let none : has row.conn these ≡ false = subst (λ n. has (record { 0 = n }) these ≡ false) (sym same) apart in
            let left : given_if these (with_out out row) ≡ with_out out row =
            ap (λ c. cond (has c these) (with_out out (with_out out row)) (with_out out row)) (with-conn out row) ∙ ap (λ b. cond b (with_out out (with_out out row)) (with_out out row)) none in
            let right : given_if (one ∷ these) row ≡ with_out out row = ap (λ b. cond (b || has row.conn these) (with_out out row) row) (turned-true row.conn.0 one.conn.0 is) in
            left ∙ sym right
        | false ↦ λ is. sym (ap (λ b. cond (b || has row.conn these) (with_out out row) row) (turned-false row.conn.0 one.conn.0 is))
      ] in
      pass (row.conn.0 == one.conn.0) refl

  each-handed : (these rows : List ConnRow) → AreDistinct these → handed (for_each out these) rows ≡ map (given_if these) rows
  each-handed [] rows apart = sym (map-id rows)
  each-handed (one ∷ these) rows apart =
      each-handed these (changed one.conn (with_out out) rows) apart.1
      ∙ map-once (λ row. cond (is_row one.conn row) (with_out out row) row) (given_if these) (given_if (one ∷ these)) (one-given one these apart.0) rows

  -- each row of these gets it, if all are there
  all-given : (these rows : List ConnRow) → ((row : ConnRow) → has row.conn rows ≡ true → has row.conn these ≡ true) → map (given_if these) rows ≡ map (with_out out) rows
  all-given these [] there = refl
  all-given these (row ∷ rows) there =
      let first : has row.conn (row ∷ rows) ≡ true = ap (λ b. b || has row.conn rows) (itself row.conn.0) in
      let further : (r : ConnRow) → has r.conn rows ≡ true → has r.conn these ≡ true =
      λ r is. there r (let pass : (b : Bool) → (b || has r.conn rows) ≡ true = elim [ true ↦ refl | false ↦ is ] in pass (row.conn.0 == r.conn.0)) in
      ap (λ b. cond b (with_out out row) row ∷ map (given_if these) rows) (there row first) ∙ ap (λ rs. with_out out row ∷ rs) (all-given these rows further)

  all-handed : (these rows : List ConnRow) → AreDistinct these → conns_of these ≡ conns_of rows → handed (for_each out these) rows ≡ map (with_out out) rows
  all-handed these rows apart same =
      each-handed these rows apart ∙ all-given these rows (λ row is. has-same row.conn these rows same ∙ is)

-- ---- all outputs

handed-append : (first second : List Delivery) (rows : List ConnRow) → handed (first ++ second) rows ≡ handed second (handed first rows)
handed-append [] second rows = refl
handed-append (one ∷ more) second rows = handed-append more second (changed one.to (with_out one.out) rows)

handed-one : (to : Recipient) (out : Out) (these rows : List ConnRow) → AreDistinct these → conns_of these ≡ conns_of rows
    → handed (deliveries_of to out these) rows ≡ given_out (record { to = to; out = out }) rows
handed-one (One conn) out these rows apart same = refl
handed-one Everyone out these rows apart same = all-handed out these rows apart same

-- The deliveries that these outputs have over rows of the same connections lead to the rows with the outputs delivered.
pub handed-spread : (sends : List Sent) (these rows : List ConnRow) → AreDistinct these → conns_of these ≡ conns_of rows → handed (spread these sends) rows ≡ delivered sends rows
handed-spread [] these rows apart same = refl
handed-spread (sent ∷ more) these rows apart same =
    let next = given_out sent rows in
    handed-append (deliveries_of sent.to sent.out these) (spread these more) rows
    ∙ ap (handed (spread these more)) (handed-one sent.to sent.out these rows apart same)
    ∙ handed-spread more these next apart (same ∙ sym (conns-given sent rows))

-- the deliveries of outputs one list after another
pub spread-append : (rows : List ConnRow) (first second : List Sent) → spread rows (first ++ second) ≡ spread rows first ++ spread rows second
spread-append rows [] second = refl
spread-append rows (sent ∷ more) second =
    ap (λ ds. deliveries_of sent.to sent.out rows ++ ds) (spread-append rows more second) ∙ sym (append_assoc (deliveries_of sent.to sent.out rows) (spread rows more) (spread rows second))
