-- Room for outputs: what one more output leaves, what a reservation makes, and what there is room for.
use Rattle.std.proofs.Common.{◌≡◌, ℕ, ◌+◌, ◌≤◌, ◌==◌, Bool, true, false, cond, List, [], ◌∷◌, length, map, Some, None, Less, refl, sym, subst, ◌∙◌, arith}
use Rattle.std.specs.List.{AllByRecursion}
use Rattle.std.specs.List.Sorted.{IsStrictlySortedBy}
use Rattle.std.specs.Map.{keys_of, set_value}
use Rattle.std.specs.BTreeMap.{is_at}
use Rattle.std.specs.Ordering.{nat_cmp}
use Rattle.std.proofs.lemmas.Bool.{eqb-true, eq-eqb}
use Rattle.std.proofs.lemmas.Map.Keys.{sorted_head, sorted_tail}
use Rattle.kr_base.specs.declared.ids.ConnId.{ConnId}
use Rattle.signal_fanout.specs.declared.outbox.Outbox.{Outbox}
use Rattle.signal_fanout.specs.declared.rows.Delivery.{Delivery}
use Rattle.signal_fanout.specs.Outboxes.{Rooms, HasRoom, KeepRooms, Spends, with_one, outs_to, count_to, HasRoomFor}
use Rattle.signal_fanout.specs.Boxes.{kept, room_in, room_of}
use Rattle.signal_fanout.proofs.BoxLemmas.{is_at_number, later_differs}

-- ---- rooms

-- room for many is room for fewer
pub room-less : (fewer many : ℕ) (conn : ConnId) (rooms : Rooms) → fewer ≤ many → HasRoom many conn rooms → HasRoom fewer conn rooms
room-less fewer many conn [] few all = tt
room-less fewer many conn (room ∷ rooms) few all = (λ here. omega (arith, few, all.0 here), room-less fewer many conn rooms few all.1)

-- there is always room for none
pub room-zero : (conn : ConnId) (rooms : Rooms) → HasRoom 0 conn rooms
room-zero conn [] = tt
room-zero conn (room ∷ rooms) = (λ here. omega arith, room-zero conn rooms)

-- the room is that of the number
pub room-same : (count : ℕ) (one other : ConnId) (rooms : Rooms) → (one.0 == other.0) ≡ true → HasRoom count one rooms → HasRoom count other rooms
room-same count one other rooms is room = subst (λ n. HasRoom count (record { 0 = n }) rooms) (eqb-true one.0 other.0 is) room

fewer-with : (conn other : ConnId) (count : ℕ) → count ≤ with_one conn other count
fewer-with conn other count =
    let pass : (b : Bool) → count ≤ cond b (count + 1) count = elim [ true ↦ omega arith | false ↦ omega arith ] in
    pass (conn.0 == other.0)

-- ---- what is kept of a connection

-- the room of what is kept of a connection
pub room-kept : (count conn : ℕ) (outbox : Outbox) (entries : List (ℕ × Outbox)) → kept conn entries ≡ Some outbox → HasRoom count (record { 0 = conn }) (map room_of entries) → count ≤ room_in outbox
room-kept count conn outbox [] some all = cc
room-kept count conn outbox (e ∷ es) some all =
    let step : (b : Bool) → (e.0 == conn) ≡ b → count ≤ room_in outbox =
    elim [
      | true ↦ λ is. let found : Some e.1 ≡ Some outbox = rw (is_at_number conn e.0, is) at some in let same : e.1 ≡ outbox = cc in subst (λ d. count ≤ room_in d) same (all.0 is)
      | false ↦ λ is. room-kept count conn outbox es (rw (is_at_number conn e.0, is) at some) all.1
    ] in
    step (e.0 == conn) refl

-- a connection that isn't there has room
pub room-none : (count conn : ℕ) (entries : List (ℕ × Outbox)) → kept conn entries ≡ None → HasRoom count (record { 0 = conn }) (map room_of entries)
room-none count conn [] none = tt
room-none count conn (e ∷ es) none =
    let step : (b : Bool) → (e.0 == conn) ≡ b → HasRoom count (record { 0 = conn }) (map room_of (e ∷ es)) =
    elim [
      | true ↦ λ is. let found : Some e.1 ≡ None = rw (is_at_number conn e.0, is) at none in cc
      | false ↦ λ is. (λ here. absurd (let no : false ≡ true = sym is ∙ here in cc), room-none count conn es (rw (is_at_number conn e.0, is) at none))
    ] in
    step (e.0 == conn) refl

room-later : (count conn k : ℕ) (entries : List (ℕ × Outbox)) → (k == conn) ≡ true → AllByRecursion (λ later. nat_cmp k later ≡ Less) (keys_of entries) → HasRoom count (record { 0 = conn }) (map room_of entries)
room-later count conn k [] is later = tt
room-later count conn k (e ∷ es) is later =
    (λ here. absurd (let no : false ≡ true = sym (later_differs conn k e.0 is later.0) ∙ here in cc), room-later count conn k es is later.1)

-- what is written for a connection has its room
pub room-set : (count conn : ℕ) (outbox new : Outbox) (entries : List (ℕ × Outbox)) → IsStrictlySortedBy nat_cmp (keys_of entries) → kept conn entries ≡ Some outbox → count ≤ room_in new
    → HasRoom count (record { 0 = conn }) (map room_of (set_value (is_at (nat_cmp conn)) entries new))
room-set count conn outbox new [] sorted some room = tt
room-set count conn outbox new (e ∷ es) sorted some room =
    let step : (b : Bool) → (e.0 == conn) ≡ b → HasRoom count (record { 0 = conn }) (map room_of (set_value (is_at (nat_cmp conn)) (e ∷ es) new)) =
    elim [
      | true ↦ λ is. rw (is_at_number conn e.0, is) (λ here. room, room-later count conn e.0 es is (sorted_head nat_cmp e.0 (keys_of es) sorted))
      | false ↦ λ is.
          let further : kept conn es ≡ Some outbox = rw (is_at_number conn e.0, is) at some in
          rw (is_at_number conn e.0, is) (λ here. absurd (let no : false ≡ true = sym is ∙ here in cc), room-set count conn outbox new es (sorted_tail nat_cmp e.0 (keys_of es) sorted) further room)
    ] in
    step (e.0 == conn) refl

-- what is written for a connection has less room by one output at most
pub spends-set : (conn : ℕ) (outbox new : Outbox) (entries : List (ℕ × Outbox)) → kept conn entries ≡ Some outbox → room_in outbox ≤ room_in new + 1
    → Spends (record { 0 = conn }) (map room_of entries) (map room_of (set_value (is_at (nat_cmp conn)) entries new))
spends-set conn outbox new [] some room count other all = tt
spends-set conn outbox new (e ∷ es) some room count other all =
    let n = with_one (record { 0 = conn }) other count in
    let fewer = fewer-with (record { 0 = conn }) other count in
    let step : (b : Bool) → (e.0 == conn) ≡ b → HasRoom count other (map room_of (set_value (is_at (nat_cmp conn)) (e ∷ es) new)) =
    elim [
      | true ↦ λ is.
          let found : Some e.1 ≡ Some outbox = rw (is_at_number conn e.0, is) at some in
          let same : e.1 ≡ outbox = cc in
          let number : e.0 ≡ conn = eqb-true e.0 conn is in
          let one : (e.0 == other.0) ≡ true → count ≤ room_in new = λ here.
          (
          let equal : (conn == other.0) ≡ true = subst (λ k. (k == other.0) ≡ true) number here in
          let more : n ≡ count + 1 = rw equal refl in
          let most : n ≤ room_in outbox = subst (λ d. n ≤ room_in d) same (all.0 here) in
          omega (arith, more, most, room)
          ) in
          rw (is_at_number conn e.0, is) (one, room-less count n other (map room_of es) fewer all.1)
      | false ↦ λ is.
          let further : kept conn es ≡ Some outbox = rw (is_at_number conn e.0, is) at some in
          rw (is_at_number conn e.0, is) (λ here. omega (arith, fewer, all.0 here), spends-set conn outbox new es further room count other all.1)
    ] in
    step (e.0 == conn) refl

-- nothing is spent where nothing changes
pub spends-none : (conn : ConnId) (rooms : Rooms) → Spends conn rooms rooms
spends-none conn rooms count other all = room-less count (with_one conn other count) other rooms (fewer-with conn other count) all

-- what is written for a connection with no less room keeps all rooms
pub keep-set : (conn : ℕ) (outbox new : Outbox) (entries : List (ℕ × Outbox)) → kept conn entries ≡ Some outbox → room_in outbox ≤ room_in new
    → KeepRooms (map room_of entries) (map room_of (set_value (is_at (nat_cmp conn)) entries new))
keep-set conn outbox new [] some room count other all = tt
keep-set conn outbox new (e ∷ es) some room count other all =
    let step : (b : Bool) → (e.0 == conn) ≡ b → HasRoom count other (map room_of (set_value (is_at (nat_cmp conn)) (e ∷ es) new)) =
    elim [
      | true ↦ λ is.
          let found : Some e.1 ≡ Some outbox = rw (is_at_number conn e.0, is) at some in
          let same : e.1 ≡ outbox = cc in
          let one : (e.0 == other.0) ≡ true → count ≤ room_in new = λ here.
          (let most : count ≤ room_in outbox = subst (λ d. count ≤ room_in d) same (all.0 here) in omega (arith, most, room)) in
          rw (is_at_number conn e.0, is) (one, all.1)
      | false ↦ λ is.
          let further : kept conn es ≡ Some outbox = rw (is_at_number conn e.0, is) at some in
          rw (is_at_number conn e.0, is) (all.0, keep-set conn outbox new es further room count other all.1)
    ] in
    step (e.0 == conn) refl

-- ---- room for outputs

-- the count of outputs with one more
pub count-more : (delivery : Delivery) (outs : List Delivery) (conn : ConnId) → count_to conn (delivery ∷ outs) ≡ with_one delivery.to conn (count_to conn outs)
count-more delivery outs conn =
    let pass : (b : Bool) → length (cond b (delivery.out ∷ outs_to conn outs) (outs_to conn outs)) ≡ cond b (count_to conn outs + 1) (count_to conn outs) =
    elim [ true ↦ omega arith | false ↦ refl ] in
    pass (delivery.to.0 == conn.0)

-- once room for the first one is spent, there is room for the others
pub spent-for : (delivery : Delivery) (outs : List Delivery) (old new : Rooms) → Spends delivery.to old new → HasRoomFor (delivery ∷ outs) old → HasRoomFor outs new
spent-for delivery outs old new spends room conn = spends (count_to conn outs) conn (subst (λ n. HasRoom n conn old) (count-more delivery outs conn) (room conn))

-- there is room for the first one
pub first-room : (delivery : Delivery) (outs : List Delivery) (rooms : Rooms) → HasRoomFor (delivery ∷ outs) rooms → HasRoom 1 delivery.to rooms
first-room delivery outs rooms room =
    let same : (delivery.to.0 == delivery.to.0) ≡ true = eq-eqb delivery.to.0 delivery.to.0 refl in
    let count : with_one delivery.to delivery.to (count_to delivery.to outs) ≡ count_to delivery.to outs + 1 = rw same refl in
    room-less 1 (count_to delivery.to (delivery ∷ outs)) delivery.to rooms (omega (arith, count-more delivery outs delivery.to, count)) (room delivery.to)
