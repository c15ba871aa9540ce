-- The room for events that are sure to come: it is as much as three for each connection, and one less after each of
-- them.
use Rattle.std.proofs.Common.{◌≡◌, ◌+◌, ◌*◌, ◌≤◌, Bool, true, false, cond, List, [], ◌∷◌, length, IsSomeAnd, refl, arith}
use Rattle.kr_base.specs.declared.ids.ConnId.{ConnId}
use Rattle.service_machine.specs.service_tables.specs.signal_fanout.specs.declared.rows.ConnRow.{ConnRow}
use Rattle.service_machine.specs.service_tables.specs.signal_fanout.specs.declared.rows.DeskRow.{DeskRow}
use Rattle.service_machine.specs.service_tables.specs.Connections.{is_row, has, changed, without, left, emptied, waits, desk_of}
use Rattle.service_history.specs.Room.{room_of, room}

-- one bit's worth
bit-le : (b : Bool) → cond b 0 1 ≤ 1
bit-le true = omega arith
bit-le false = omega arith

bit-le' : (b : Bool) → cond b 1 0 ≤ 1
bit-le' true = omega arith
bit-le' false = omega arith

pub room_of-few : (row : ConnRow) → room_of row ≤ 3
room_of-few row = omega (arith, bit-le row.leaving, bit-le' (waits row))

pub room-few : (rows : List ConnRow) → room rows ≤ 3 * length rows
room-few [] = omega arith
room-few (row ∷ rows) = omega (arith, room_of-few row, room-few rows)

-- a row takes room
pub room_of-some : (row : ConnRow) → 1 ≤ room_of row
room_of-some row = omega arith

-- ---- a change of rows that asks for no more room

abbrev pub AsksNoMore : (ConnRow → ConnRow) → Type 0
AsksNoMore change = (row : ConnRow) → room_of (change row) ≤ room_of row

pub room-changed : (conn : ConnId) (change : ConnRow → ConnRow) → AsksNoMore change → (rows : List ConnRow) → room (changed conn change rows) ≤ room rows
room-changed conn change less [] = omega arith
room-changed conn change less (row ∷ rows) =
    let pass : (b : Bool) → is_row conn row ≡ b → room (changed conn change (row ∷ rows)) ≤ room (row ∷ rows) =
    elim [
      | true ↦ λ is. rw is (omega (arith, less row, room-changed conn change less rows))
      | false ↦ λ is. rw is (omega (arith, room-changed conn change less rows))
    ] in
    pass (is_row conn row) refl

-- and of the connection's row, of which P is true, for one less
pub room-changed_one : (P : DeskRow → Type 0) (conn : ConnId) (change : ConnRow → ConnRow) → AsksNoMore change
    → ((row : ConnRow) → P (record { waits = waits row; overrun = row.overrun; leaving = row.leaving }) → room_of (change row) + 1 ≤ room_of row)
    → (rows : List ConnRow) → IsSomeAnd (desk_of conn rows) P → room (changed conn change rows) + 1 ≤ room rows
room-changed_one P conn change less one [] told = absurd told
room-changed_one P conn change less one (row ∷ rows) told =
    let pass : (b : Bool) → is_row conn row ≡ b → room (changed conn change (row ∷ rows)) + 1 ≤ room (row ∷ rows) =
    elim [
      | true ↦ λ is. let here = rw is at told in rw is (omega (arith, one row here, room-changed conn change less rows))
      | false ↦ λ is. rw is (omega (arith, room-changed_one P conn change less one rows (rw is at told)))
    ] in
    pass (is_row conn row) refl

pub room-left_one : (row : ConnRow) → row.leaving ≡ false → room_of (left row) + 1 ≤ room_of row
room-left_one row stays = rw stays (omega arith)

pub room-emptied_one : (row : ConnRow) → waits row ≡ true → room_of (emptied row) + 1 ≤ room_of row
room-emptied_one row some = rw some (omega arith)

-- ---- a connection less

pub room-without : (conn : ConnId) (rows : List ConnRow) → room (without conn rows) ≤ room rows
room-without conn [] = omega arith
room-without conn (row ∷ rows) =
    let pass : (b : Bool) → is_row conn row ≡ b → room (without conn (row ∷ rows)) ≤ room (row ∷ rows) =
    elim [
      | true ↦ λ is. rw is (omega (arith, room-without conn rows))
      | false ↦ λ is. rw is (omega (arith, room-without conn rows))
    ] in
    pass (is_row conn row) refl

pub room-without_one : (conn : ConnId) (rows : List ConnRow) → has conn rows ≡ true → room (without conn rows) + 1 ≤ room rows
room-without_one conn [] there = cc
room-without_one conn (row ∷ rows) there =
    let pass : (b : Bool) → is_row conn row ≡ b → room (without conn (row ∷ rows)) + 1 ≤ room (row ∷ rows) =
    elim [
      | true ↦ λ is. rw is (omega (arith, room_of-some row, room-without conn rows))
      | false ↦ λ is. rw is (omega (arith, room-without_one conn rows (rw is at there)))
    ] in
    pass (is_row conn row) refl
