-- Entries of a map in order, seen as rows: a look-up, a change of one, one more after all, one less.
use Rattle.std.proofs.Common.{◌≡◌, ℕ, ◌+◌, ◌<◌, ◌≤◌, ◌==◌, nat_le, length, min, Result, Ok, Err, OnOk, Bool, true, false, cond, List, [], ◌∷◌, ◌++◌, map, Some, None, is_some, refl, ap, ◌∙◌, sym, arith, Less, Greater}
use Rattle.std.specs.Ordering.{nat_cmp}
use Rattle.std.specs.Option.{option_map}
use Rattle.std.specs.List.{AllByRecursion, find}
use Rattle.std.specs.List.Sorted.{IsStrictlySortedBy}
use Rattle.std.specs.Map.{keys_of, set_value, remove_entry}
use Rattle.std.specs.BTreeMap.{is_at, insert_entry}
use Rattle.std.proofs.lemmas.Map.{keys-set_value}
use Rattle.std.proofs.lemmas.Map.Keys.{sorted_head, sorted_tail}
use Rattle.std.proofs.lemmas.Bool.Decides.{nat_tests}
use Rattle.std.proofs.lemmas.Bool.{eqb-true}
use Rattle.signal_fanout.specs.declared.outbox.Outbox.{Outbox}
use Rattle.signal_fanout.specs.declared.rows.ConnRow.{ConnRow}
use Rattle.secret_calls.specs.declared.out.Out.{Out}
use Rattle.secret_calls.specs.Outs.{spelled, most_waiting}
use Rattle.signal_fanout.specs.Outboxes.{AreBelow, is_row, has, changed, without, waiting_for, size_of, size_waiting, with_out, KeepRooms}
use Rattle.signal_fanout.specs.Boxes.{row_of, room_of, kept, IsCounted, AreCounted, AreGiven, AreKept, AreSame, Changes}

pub is_at_number : (conn k : ℕ) → is_at (nat_cmp conn) k ≡ (k == conn)
is_at_number conn k = grind (arith, nat_tests)

pub later_differs : (conn k later : ℕ) → (k == conn) ≡ true → nat_cmp k later ≡ Less → (later == conn) ≡ false
later_differs conn k later is less = grind (arith, nat_tests)

-- ---- a look-up

pub kept-has : (conn : ℕ) (entries : List (ℕ × Outbox)) → is_some (kept conn entries) ≡ has (record { 0 = conn }) (map row_of entries)
kept-has conn [] = refl
kept-has conn (e ∷ es) =
    let step : (b : Bool) → (e.0 == conn) ≡ b → is_some (kept conn (e ∷ es)) ≡ has (record { 0 = conn }) (map row_of (e ∷ es)) =
    elim [
      | true ↦ λ is. rw (is_at_number conn e.0, is) refl
      | false ↦ λ is. rw (is_at_number conn e.0, is) (kept-has conn es)
    ] in
    step (e.0 == conn) refl

pub find-row : (conn : ℕ) (entries : List (ℕ × Outbox)) → find (is_row (record { 0 = conn })) (map row_of entries) ≡ option_map (λ outbox. row_of (conn, outbox)) (kept conn entries)
find-row conn [] = refl
find-row conn (e ∷ es) =
    let step : (b : Bool) → (e.0 == conn) ≡ b → find (is_row (record { 0 = conn })) (map row_of (e ∷ es)) ≡ option_map (λ outbox. row_of (conn, outbox)) (kept conn (e ∷ es)) =
    elim [
      | true ↦ λ is. rw (is_at_number conn e.0, is) (ap (λ k. Some (row_of (k, e.1))) (eqb-true e.0 conn is))
      | false ↦ λ is. rw (is_at_number conn e.0, is) (find-row conn es)
    ] in
    step (e.0 == conn) refl

pub waiting_for-none : (conn : ℕ) (entries : List (ℕ × Outbox)) → kept conn entries ≡ None → waiting_for (record { 0 = conn }) (map row_of entries) ≡ []
waiting_for-none conn [] none = refl
waiting_for-none conn (e ∷ es) none =
    let step : (b : Bool) → (e.0 == conn) ≡ b → waiting_for (record { 0 = conn }) (map row_of (e ∷ es)) ≡ [] =
    elim [
      | true ↦ λ is. let found : Some e.1 ≡ None = rw (is_at_number conn e.0, is) at none in cc
      | false ↦ λ is. let further : kept conn es ≡ None = rw (is_at_number conn e.0, is) at none in rw is (waiting_for-none conn es further)
    ] in
    step (e.0 == conn) refl

pub waiting_for-some : (conn : ℕ) (outbox : Outbox) (entries : List (ℕ × Outbox)) → kept conn entries ≡ Some outbox → waiting_for (record { 0 = conn }) (map row_of entries) ≡ outbox.waiting.items
waiting_for-some conn outbox [] some = cc
waiting_for-some conn outbox (e ∷ es) some =
    let step : (b : Bool) → (e.0 == conn) ≡ b → waiting_for (record { 0 = conn }) (map row_of (e ∷ es)) ≡ outbox.waiting.items =
    elim [
      | true ↦ λ is. let found : Some e.1 ≡ Some outbox = rw (is_at_number conn e.0, is) at some in let same : e.1 ≡ outbox = cc in rw is (ap (λ d. d.waiting.items) same)
      | false ↦ λ is. let further : kept conn es ≡ Some outbox = rw (is_at_number conn e.0, is) at some in rw is (waiting_for-some conn outbox es further)
    ] in
    step (e.0 == conn) refl

-- what is counted of each is counted of the one that a look-up finds
pub counts_of-kept : (conn : ℕ) (outbox : Outbox) (entries : List (ℕ × Outbox)) → AreCounted entries → kept conn entries ≡ Some outbox → IsCounted outbox
counts_of-kept conn outbox [] counts some = cc
counts_of-kept conn outbox (e ∷ es) counts some =
    let step : (b : Bool) → (e.0 == conn) ≡ b → IsCounted outbox =
    elim [
      | true ↦ λ is. let found : Some e.1 ≡ Some outbox = rw (is_at_number conn e.0, is) at some in let same : e.1 ≡ outbox = cc in rw (← same) counts.0
      | false ↦ λ is. counts_of-kept conn outbox es counts.1 (rw (is_at_number conn e.0, is) at some)
    ] in
    step (e.0 == conn) refl

-- ---- a change of one

-- a change of a row that isn't there changes nothing
pub changed-none : (conn : ℕ) (change : ConnRow → ConnRow) (entries : List (ℕ × Outbox)) → kept conn entries ≡ None → map row_of entries ≡ changed (record { 0 = conn }) change (map row_of entries)
changed-none conn change [] none = refl
changed-none conn change (e ∷ es) none =
    let step : (b : Bool) → (e.0 == conn) ≡ b → map row_of (e ∷ es) ≡ changed (record { 0 = conn }) change (map row_of (e ∷ es)) =
    elim [
      | true ↦ λ is. let found : Some e.1 ≡ None = rw (is_at_number conn e.0, is) at none in cc
      | false ↦ λ is. let further : kept conn es ≡ None = rw (is_at_number conn e.0, is) at none in rw is (ap (λ t. row_of e ∷ t) (changed-none conn change es further))
    ] in
    step (e.0 == conn) refl

-- the rows after the one that changes stay
pub changed-later : (conn k : ℕ) (change : ConnRow → ConnRow) (entries : List (ℕ × Outbox)) → (k == conn) ≡ true → AllByRecursion (λ later. nat_cmp k later ≡ Less) (keys_of entries)
    → map row_of entries ≡ changed (record { 0 = conn }) change (map row_of entries)
changed-later conn k change [] is later = refl
changed-later conn k change (e ∷ es) is later = rw (later_differs conn k e.0 is later.0) (ap (λ t. row_of e ∷ t) (changed-later conn k change es is later.1))

pub set_value-row : (conn : ℕ) (change : ConnRow → ConnRow) (outbox new : Outbox) (entries : List (ℕ × Outbox)) → IsStrictlySortedBy nat_cmp (keys_of entries)
    → kept conn entries ≡ Some outbox → row_of (conn, new) ≡ change (row_of (conn, outbox))
    → map row_of (set_value (is_at (nat_cmp conn)) entries new) ≡ changed (record { 0 = conn }) change (map row_of entries)
set_value-row conn change outbox new [] sorted some row = cc
set_value-row conn change outbox new (e ∷ es) sorted some row =
    let step : (b : Bool) → (e.0 == conn) ≡ b → map row_of (set_value (is_at (nat_cmp conn)) (e ∷ es) new) ≡ changed (record { 0 = conn }) change (map row_of (e ∷ es)) =
    elim [
      | true ↦ λ is.
          let found : Some e.1 ≡ Some outbox = rw (is_at_number conn e.0, is) at some in
          let same : e.1 ≡ outbox = cc in
          let number : e.0 ≡ conn = eqb-true e.0 conn is in
          let head : row_of (e.0, new) ≡ change (row_of e) = rw number (rw same row) in
          let rest : map row_of es ≡ changed (record { 0 = conn }) change (map row_of es) = changed-later conn e.0 change es is (sorted_head nat_cmp e.0 (keys_of es) sorted) in
          rw (is_at_number conn e.0, is) (ap (λ h. h ∷ map row_of es) head ∙ ap (λ t. change (row_of e) ∷ t) rest)
      | false ↦ λ is.
          let further : kept conn es ≡ Some outbox = rw (is_at_number conn e.0, is) at some in
          rw (is_at_number conn e.0, is) (ap (λ t. row_of e ∷ t) (set_value-row conn change outbox new es (sorted_tail nat_cmp e.0 (keys_of es) sorted) further row))
    ] in
    step (e.0 == conn) refl

pub set_value-counts : (conn : ℕ) (new : Outbox) (entries : List (ℕ × Outbox)) → IsCounted new → AreCounted entries → AreCounted (set_value (is_at (nat_cmp conn)) entries new)
set_value-counts conn new [] one all = tt
set_value-counts conn new (e ∷ es) one all =
    let step : (b : Bool) → is_at (nat_cmp conn) e.0 ≡ b → AreCounted (set_value (is_at (nat_cmp conn)) (e ∷ es) new) =
    elim [
      | true ↦ λ is. rw is (one, all.1)
      | false ↦ λ is. rw is (all.0, set_value-counts conn new es one all.1)
    ] in
    step (is_at (nat_cmp conn) e.0) refl

-- what is written through a look-up changes one row
pub changes_one : (conn : ℕ) (change : ConnRow → ConnRow) (outbox new : Outbox) (old entries : List (ℕ × Outbox)) → IsStrictlySortedBy nat_cmp (keys_of old)
    → Some outbox ≡ kept conn old → row_of (conn, new) ≡ change (row_of (conn, outbox)) → (IsCounted outbox → IsCounted new)
    → entries ≡ set_value (is_at (nat_cmp conn)) old new → Changes conn change old entries
changes_one conn change outbox new old entries sorted some row counts written =
    rw written record {
      rows = set_value-row conn change outbox new old sorted (sym some) row;
      keys = keys-set_value (is_at (nat_cmp conn)) old new;
      counts = λ all. set_value-counts conn new old (counts (counts_of-kept conn outbox old all (sym some))) all;
    }

-- and nothing is changed where none is found
pub changes_none : (conn : ℕ) (change : ConnRow → ConnRow) (old : List (ℕ × Outbox)) → None ≡ kept conn old → Changes conn change old old
changes_none conn change old none = record {
  rows = changed-none conn change old (sym none);
  keys = refl;
  counts = λ all. all;
}

-- ---- one more after all, one less

pub insert_entry-behind : (conn : ℕ) (outbox : Outbox) (entries : List (ℕ × Outbox)) → AreGiven conn (keys_of entries) → insert_entry nat_cmp entries conn outbox ≡ entries ++ (conn, outbox) ∷ []
insert_entry-behind conn outbox [] given = refl
insert_entry-behind conn outbox (e ∷ es) given =
    let below : e.0 < conn = given.0 in
    let greater : nat_cmp conn e.0 ≡ Greater = grind (arith, nat_tests) in
    rw greater (ap (λ t. e ∷ t) (insert_entry-behind conn outbox es given.1))

pub without-later : (conn k : ℕ) (entries : List (ℕ × Outbox)) → (k == conn) ≡ true → AllByRecursion (λ later. nat_cmp k later ≡ Less) (keys_of entries)
    → map row_of entries ≡ without (record { 0 = conn }) (map row_of entries)
without-later conn k [] is later = refl
without-later conn k (e ∷ es) is later = rw (later_differs conn k e.0 is later.0) (ap (λ t. row_of e ∷ t) (without-later conn k es is later.1))

pub remove_entry-row : (conn : ℕ) (entries : List (ℕ × Outbox)) → IsStrictlySortedBy nat_cmp (keys_of entries)
    → map row_of (remove_entry (is_at (nat_cmp conn)) entries) ≡ without (record { 0 = conn }) (map row_of entries)
remove_entry-row conn [] sorted = refl
remove_entry-row conn (e ∷ es) sorted =
    let step : (b : Bool) → (e.0 == conn) ≡ b → map row_of (remove_entry (is_at (nat_cmp conn)) (e ∷ es)) ≡ without (record { 0 = conn }) (map row_of (e ∷ es)) =
    elim [
      | true ↦ λ is. rw (is_at_number conn e.0, is) (without-later conn e.0 es is (sorted_head nat_cmp e.0 (keys_of es) sorted))
      | false ↦ λ is. rw (is_at_number conn e.0, is) (ap (λ t. row_of e ∷ t) (remove_entry-row conn es (sorted_tail nat_cmp e.0 (keys_of es) sorted)))
    ] in
    step (e.0 == conn) refl

-- what is true of each entry is true of those that are left
pub remove_entry-all : (P : ℕ × Outbox → Type 0) (test : ℕ → Bool) (entries : List (ℕ × Outbox)) → AllByRecursion P entries → AllByRecursion P (remove_entry test entries)
remove_entry-all P test [] all = tt
remove_entry-all P test (e ∷ es) all =
    let step : (b : Bool) → test e.0 ≡ b → AllByRecursion P (remove_entry test (e ∷ es)) =
    elim [
      | true ↦ λ is. rw is all.1
      | false ↦ λ is. rw is (all.0, remove_entry-all P test es all.1)
    ] in
    step (test e.0) refl

-- ---- what a table keeps

pub changed-same : (conn : ℕ) (rows : List ConnRow) → changed (record { 0 = conn }) (λ row. row) rows ≡ rows
changed-same conn [] = refl
changed-same conn (row ∷ rows) =
    let same : (b : Bool) → cond b row row ≡ row = elim [ true ↦ refl | false ↦ refl ] in
    rw (same (is_row (record { 0 = conn }) row), changed-same conn rows) refl

-- what was kept is kept after a change
pub kept_after : (conn : ℕ) (change : ConnRow → ConnRow) (old new : List (ℕ × Outbox)) → AreKept old → Changes conn change old new → AreKept new
kept_after conn change old new all changes = record {
  ordered = rw changes.keys all.ordered;
  counts = changes.counts all.counts;
}

-- and where no row changes
pub kept_same : (old new : List (ℕ × Outbox)) → AreKept old → AreSame old new → AreKept new
kept_same old new all same = record {
  ordered = rw same.keys all.ordered;
  counts = same.counts all.counts;
}

pub same-refl : (entries : List (ℕ × Outbox)) → AreSame entries entries
same-refl entries = record { rows = refl; rooms = λ count conn room. room; keys = refl; counts = λ all. all }

pub same-then : (old mid new : List (ℕ × Outbox)) → AreSame old mid → AreSame mid new → AreSame old new
same-then old mid new first second = record {
  rows = second.rows ∙ first.rows;
  rooms = λ count conn room. second.rooms count conn (first.rooms count conn room);
  keys = second.keys ∙ first.keys;
  counts = λ all. second.counts (first.counts all);
}

pub same-changed : (conn : ℕ) (old new : List (ℕ × Outbox)) → Changes conn (λ row. row) old new → KeepRooms (map room_of old) (map room_of new) → AreSame old new
same-changed conn old new changes rooms = record {
  rows = changes.rows ∙ changed-same conn (map row_of old);
  rooms = rooms;
  keys = changes.keys;
  counts = changes.counts;
}

-- the numbers of rows are those of their entries
pub given-rows : (next : ℕ) (entries : List (ℕ × Outbox)) → AreBelow next (map row_of entries) → AreGiven next (keys_of entries)
given-rows next [] below = tt
given-rows next (e ∷ es) below = (below.0, given-rows next es below.1)

pub OnOk-more : {T E : Type 0} (r : Result T E) (P Q : Type 0) → (P → Q) → OnOk r P → OnOk r Q
OnOk-more (Ok x) P Q more p = more p
OnOk-more (Err e) P Q more p = tt

-- ---- one more output

pub size_of-is : (out : Out) (n : ℕ) → n ≡ min 18446744073709551615 (length (spelled out 1)) → n ≡ min 18446744073709551615 (size_of out)
unfolding size_of
size_of-is out n is = is

pub with_out-over : (out : Out) (row : ConnRow) → row.overrun ≡ false → most_waiting < size_waiting row.waiting + size_of out → with_out out row ≡ record row { overrun = true }
with_out-over out row fine over =
    let no : nat_le (size_waiting row.waiting + size_of out) most_waiting ≡ false = grind (arith, nat_tests) in
    rw (fine, no) refl

pub with_out-fits : (out : Out) (row : ConnRow) → row.overrun ≡ false → size_waiting row.waiting + size_of out ≤ most_waiting → with_out out row ≡ record row { waiting = row.waiting ++ out ∷ [] }
with_out-fits out row fine fits =
    let yes : nat_le (size_waiting row.waiting + size_of out) most_waiting ≡ true = grind (arith, nat_tests) in
    rw (fine, yes) refl
