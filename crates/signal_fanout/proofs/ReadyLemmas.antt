-- Outputs that are expected: what is written for a connection, and what several deliveries need.
use Rattle.std.proofs.Common.{◌≡◌, ℕ, ◌+◌, ◌==◌, ◌⊎◌, inl, inr, Bool, true, false, cond, List, [], ◌∷◌, ◌++◌, length, map, take, get_or, ◌<◌, Some, None, Less, refl, sym, ap, subst, ◌∙◌, arith}
use Rattle.std.specs.List.{AllByRecursion}
use Rattle.std.specs.List.Sorted.{IsStrictlySortedBy}
use Rattle.std.specs.Map.{keys_of, set_value}
use Rattle.std.specs.BTreeMap.{is_at}
use Rattle.std.specs.Ordering.{nat_cmp}
use Rattle.std.proofs.lemmas.Bool.{eqb-true, eq-eqb}
use Rattle.std.proofs.lemmas.Bool.Decides.{nat_tests}
use Rattle.std.proofs.lemmas.List.{take_more}
use Rattle.std.proofs.lemmas.Map.Keys.{sorted_head, sorted_tail}
use Rattle.kr_base.specs.declared.ids.ConnId.{ConnId}
use Rattle.secret_calls.specs.declared.out.Out.{Out}
use Rattle.signal_fanout.specs.declared.outbox.Outbox.{Outbox}
use Rattle.signal_fanout.specs.declared.rows.Delivery.{Delivery}
use Rattle.signal_fanout.specs.Outboxes.{HasRoom, HasRoomFor, with_one, count_to}
use Rattle.signal_fanout.specs.Boxes.{kept, room_of, HoldsOf, IsReady}
use Rattle.signal_fanout.proofs.BoxLemmas.{is_at_number, later_differs}
use Rattle.signal_fanout.proofs.RoomLemmas.{count-more, room-zero}

-- ---- what is written for one connection

later-holds : (Q : Outbox → Type 0) (conn k : ℕ) (entries : List (ℕ × Outbox)) → (k == conn) ≡ true → AllByRecursion (λ later. nat_cmp k later ≡ Less) (keys_of entries) → HoldsOf Q conn entries
later-holds Q conn k [] is later = tt
later-holds Q conn k (e ∷ es) is later =
    (λ here. absurd (let no : false ≡ true = sym (later_differs conn k e.0 is later.0) ∙ here in cc), later-holds Q conn k es is later.1)

-- anything holds of a connection that isn't there
pub none-holds : (Q : Outbox → Type 0) (conn : ℕ) (entries : List (ℕ × Outbox)) → kept conn entries ≡ None → HoldsOf Q conn entries
none-holds Q conn [] none = tt
none-holds Q conn (e ∷ es) none =
    let step : (b : Bool) → (e.0 == conn) ≡ b → HoldsOf Q conn (e ∷ es) =
    elim [
      | true ↦ λ is. let found : Some e.1 ≡ None = rw (is_at_number conn e.0, is) at none in cc
      | false ↦ λ is. (λ here. absurd (let no : false ≡ true = sym is ∙ here in cc), none-holds Q conn es (rw (is_at_number conn e.0, is) at none))
    ] in
    step (e.0 == conn) refl

weaker : (P Q : Outbox → Type 0) (conn : ℕ) (entries : List (ℕ × Outbox)) → ((one : Outbox) → P one → Q one) → HoldsOf P conn entries → HoldsOf Q conn entries
weaker P Q conn [] more all = tt
weaker P Q conn (e ∷ es) more all = (λ here. more e.1 (all.0 here), weaker P Q conn es more all.1)

others_differ : (conn k other : ℕ) → (k == conn) ≡ false → (k == other) ≡ true → (conn == other) ≡ false
others_differ conn k other is here = grind (arith, nat_tests)

-- what holds of a connection after another, or the same one, is written
pub holds-set : (P Q : Outbox → Type 0) (conn other : ℕ) (outbox new : Outbox) (entries : List (ℕ × Outbox)) → IsStrictlySortedBy nat_cmp (keys_of entries) → kept conn entries ≡ Some outbox
    → ((conn == other) ≡ true → P outbox → Q new) → ((conn == other) ≡ false → (one : Outbox) → P one → Q one)
    → HoldsOf P other entries → HoldsOf Q other (set_value (is_at (nat_cmp conn)) entries new)
holds-set P Q conn other outbox new [] sorted some same differ all = tt
holds-set P Q conn other outbox new (e ∷ es) sorted some same differ all =
    let step : (b : Bool) → (e.0 == conn) ≡ b → HoldsOf Q other (set_value (is_at (nat_cmp conn)) (e ∷ es) new) =
    elim [
      | true ↦ λ is.
          let found : Some e.1 ≡ Some outbox = rw (is_at_number conn e.0, is) at some in
          let is_one : e.1 ≡ outbox = cc in
          let number : e.0 ≡ conn = eqb-true e.0 conn is in
          let first : (e.0 == other) ≡ true → Q new = λ here. same (subst (λ k. (k == other) ≡ true) number here) (subst P is_one (all.0 here)) in
          let rest : (b : Bool) → (e.0 == other) ≡ b → HoldsOf Q other es =
          elim [
            | true ↦ λ here. later-holds Q other e.0 es here (sorted_head nat_cmp e.0 (keys_of es) sorted)
            | false ↦ λ here. weaker P Q other es (differ (subst (λ k. (k == other) ≡ false) number here)) all.1
          ] in
          rw (is_at_number conn e.0, is) (first, rest (e.0 == other) refl)
      | false ↦ λ is.
          let further : kept conn es ≡ Some outbox = rw (is_at_number conn e.0, is) at some in
          let first : (e.0 == other) ≡ true → Q e.1 = λ here. differ (others_differ conn e.0 other is here) e.1 (all.0 here) in
          rw (is_at_number conn e.0, is) (first, holds-set P Q conn other outbox new es (sorted_tail nat_cmp e.0 (keys_of es) sorted) further same differ all.1)
    ] in
    step (e.0 == conn) refl

-- ---- one connection

abbrev any : Outbox → Type 0
any outbox = Unit {0}

any-holds : (conn : ℕ) (entries : List (ℕ × Outbox)) → HoldsOf any conn entries
any-holds conn [] = tt
any-holds conn (e ∷ es) = (λ here. tt, any-holds conn es)

-- the connection that is written is ready if what is written is
pub ready-here : (conn : ℕ) (outbox new : Outbox) (entries : List (ℕ × Outbox)) → IsStrictlySortedBy nat_cmp (keys_of entries) → kept conn entries ≡ Some outbox → IsReady 0 new
    → HoldsOf (IsReady 0) conn (set_value (is_at (nat_cmp conn)) entries new)
ready-here conn outbox new entries sorted some ready =
    let itself : (conn == conn) ≡ true = eq-eqb conn conn refl in
    holds-set any (IsReady 0) conn conn outbox new entries sorted some (λ is one. ready) (λ is. absurd (let no : false ≡ true = sym is ∙ itself in cc)) (any-holds conn entries)

-- and the others stay ready
pub ready-others : (conn other : ℕ) (outbox new : Outbox) (entries : List (ℕ × Outbox)) → IsStrictlySortedBy nat_cmp (keys_of entries) → kept conn entries ≡ Some outbox → IsReady 0 new
    → HoldsOf (IsReady 0) other entries → HoldsOf (IsReady 0) other (set_value (is_at (nat_cmp conn)) entries new)
ready-others conn other outbox new entries sorted some ready all =
    holds-set (IsReady 0) (IsReady 0) conn other outbox new entries sorted some (λ is one. ready) (λ is one here. here) all

-- one more is expected of the connection that is written
pub ready-more : (count conn : ℕ) (other : ConnId) (outbox new : Outbox) (entries : List (ℕ × Outbox)) → IsStrictlySortedBy nat_cmp (keys_of entries) → kept conn entries ≡ Some outbox
    → ((n : ℕ) → IsReady n outbox → IsReady (n + 1) new)
    → HoldsOf (IsReady count) other.0 entries → HoldsOf (IsReady (with_one (record { 0 = conn }) other count)) other.0 (set_value (is_at (nat_cmp conn)) entries new)
ready-more count conn other outbox new entries sorted some grows all =
    holds-set (IsReady count) (IsReady (with_one (record { 0 = conn }) other count)) conn other.0 outbox new entries sorted some (λ is ready. rw is (grows count ready)) (λ is one ready. rw is ready) all

-- and none of one that isn't there
pub ready-none : (count conn : ℕ) (other : ConnId) (entries : List (ℕ × Outbox)) → kept conn entries ≡ None
    → HoldsOf (IsReady count) other.0 entries → HoldsOf (IsReady (with_one (record { 0 = conn }) other count)) other.0 entries
ready-none count conn other entries none all =
    let step : (b : Bool) → (conn == other.0) ≡ b → HoldsOf (IsReady (cond b (count + 1) count)) other.0 entries =
    elim [
      | true ↦ λ is. none-holds (IsReady (count + 1)) other.0 entries (subst (λ k. kept k entries ≡ None) (eqb-true conn other.0 is) none)
      | false ↦ λ is. all
    ] in
    step (conn == other.0) refl

-- ---- all of them

with_one-plus : (conn other : ConnId) (n m : ℕ) → with_one conn other (n + m) ≡ n + with_one conn other m
with_one-plus conn other n m =
    let pass : (b : Bool) → cond b (n + m + 1) (n + m) ≡ n + cond b (m + 1) m = elim [ true ↦ omega arith | false ↦ refl ] in
    pass (conn.0 == other.0)

turned : (one two other : ConnId) (n : ℕ) → with_one one other (with_one two other n) ≡ with_one two other (with_one one other n)
turned one two other n =
    let pass : (a b : Bool) → cond a (cond b (n + 1) n + 1) (cond b (n + 1) n) ≡ cond b (cond a (n + 1) n + 1) (cond a (n + 1) n) =
    elim [ true ↦ elim [ true ↦ refl | false ↦ refl ] | false ↦ elim [ true ↦ refl | false ↦ refl ] ] in
    pass (one.0 == other.0) (two.0 == other.0)

count-append : (conn : ConnId) (outs : List Delivery) (delivery : Delivery) → count_to conn (outs ++ delivery ∷ []) ≡ with_one delivery.to conn (count_to conn outs)
count-append conn [] delivery = count-more delivery [] conn
count-append conn (one ∷ outs) delivery =
    count-more one (outs ++ delivery ∷ []) conn ∙ ap (λ (n : ℕ). with_one one.to conn n) (count-append conn outs delivery)
    ∙ turned one.to delivery.to conn (count_to conn outs) ∙ ap (λ (n : ℕ). with_one delivery.to conn n) (sym (count-more one outs conn))

-- as many are expected once the next one is
pub count-taken : (conn : ConnId) (outs : List Delivery) (i : ℕ) (delivery : Delivery) (n : ℕ) → i < length outs → get_or outs i delivery ≡ delivery
    → with_one delivery.to conn (n + count_to conn (take i outs)) ≡ n + count_to conn (take (i + 1) outs)
count-taken conn outs i delivery n within is =
    let more : count_to conn (take (i + 1) outs) ≡ with_one delivery.to conn (count_to conn (take i outs)) = rw (take_more outs i delivery within, is) (count-append conn (take i outs) delivery) in
    with_one-plus delivery.to conn n (count_to conn (take i outs)) ∙ ap (λ (m : ℕ). n + m) (sym more)

-- there is room for what is expected
ready-room : (count : ℕ) (conn : ConnId) (entries : List (ℕ × Outbox)) → HoldsOf (IsReady count) conn.0 entries → HasRoom count conn (map room_of entries)
ready-room count conn [] all = tt
ready-room count conn (e ∷ es) all = (λ here. (all.0 here).room, ready-room count conn es all.1)

-- none of the outputs goes to a connection that wasn't looked at
expected-or-none : (conn : ConnId) (outs : List Delivery) (entries : List (ℕ × Outbox)) → AllByRecursion (λ (sent : Delivery). HoldsOf (IsReady 0) sent.to.0 entries) outs
    → HoldsOf (IsReady 0) conn.0 entries ⊎ (count_to conn outs ≡ 0)
expected-or-none conn [] entries all = inr refl
expected-or-none conn (delivery ∷ outs) entries all =
    let further : HoldsOf (IsReady 0) conn.0 entries ⊎ (count_to conn outs ≡ 0) → (delivery.to.0 == conn.0) ≡ false → HoldsOf (IsReady 0) conn.0 entries ⊎ (count_to conn (delivery ∷ outs) ≡ 0) =
    elim [ inl ready ↦ λ is. inl ready | inr none ↦ λ is. inr (rw is none) ] in
    let pass : (b : Bool) → (delivery.to.0 == conn.0) ≡ b → HoldsOf (IsReady 0) conn.0 entries ⊎ (count_to conn (delivery ∷ outs) ≡ 0) =
    elim [
      | true ↦ λ is. inl (subst (λ k. HoldsOf (IsReady 0) k entries) (eqb-true delivery.to.0 conn.0 is) all.0)
      | false ↦ λ is. further (expected-or-none conn outs entries all.1) is
    ] in
    pass (delivery.to.0 == conn.0) refl

-- once each of these deliveries is expected, there is room for all
pub expected-room : (deliveries : List Delivery) (start entries : List (ℕ × Outbox)) → AllByRecursion (λ (sent : Delivery). HoldsOf (IsReady 0) sent.to.0 start) deliveries
    → ((conn : ConnId) → HoldsOf (IsReady 0) conn.0 start → HoldsOf (IsReady (count_to conn deliveries)) conn.0 entries)
    → HasRoomFor deliveries (map room_of entries)
expected-room deliveries start entries ready expected conn =
    let pass : HoldsOf (IsReady 0) conn.0 start ⊎ (count_to conn deliveries ≡ 0) → HasRoom (count_to conn deliveries) conn (map room_of entries) =
    elim [
      | inl here ↦ ready-room (count_to conn deliveries) conn entries (expected conn here)
      | inr none ↦ subst (λ n. HasRoom n conn (map room_of entries)) (sym none) (room-zero conn (map room_of entries))
    ] in
    pass (expected-or-none conn deliveries start ready)

-- the caller's reply and the others together
pub expected-all : (caller conn : ConnId) (reply : Out) (outs : List Delivery) → with_one caller conn 0 + count_to conn outs ≡ count_to conn (record { to = caller; out = reply } ∷ outs)
expected-all caller conn reply outs =
    let pass : (b : Bool) → cond b (0 + 1) 0 + count_to conn outs ≡ cond b (count_to conn outs + 1) (count_to conn outs) = elim [ true ↦ omega arith | false ↦ omega arith ] in
    pass (caller.0 == conn.0) ∙ sym (count-more (record { to = caller; out = reply }) outs conn)
