-- Seats still know what is true when one of them changes or one more is added.
use Rattle.std.proofs.Common.{◌≡◌, ◌⊎◌, ℕ, zero, suc, ◌+◌, ◌<◌, ◌≤◌, ◌≢◌, Bool, true, false, List, [], ◌∷◌, ◌++◌, length, set, Option, Some, None, refl, sym, ap, ◌∙◌, subst, ⊎_elim, inl, inr, arith, length-append}
use mathlib.Core.Option.{some, some-injective, some-ne-none}
use mathlib.Core.Option as maybe
use lib.ListN.{get_elem?}
use Rattle.atomic_table.proofs.Lists.{at_set, set_else}
use Rattle.atomic_table.specs.Table.{Me}
use Rattle.shared_turn.specs.declared.known.Known.{Known}
use Rattle.shared_turn.specs.Places.{IsIn}
use Rattle.shared_turn.specs.Seats.{HasTurn, IsReady}
use Rattle.shared_turn.proofs.Histories.{in-bounds}
use Rattle.shared_turn.specs.Rule.{one_if, tickets, spent, AreApart, IsTrue, Knows, IsHome, IsOut}

-- what is put at an index that is there is found there
pub set-at : {A : Type 0} (l : List A) (i : ℕ) (a b : A) → get_elem? l i ≡ some a → get_elem? (set l i b) i ≡ some b
set-at [] i a b e = absurd (some-ne-none a (sym e))
set-at (x ∷ xs) zero a b e = refl
set-at (x ∷ xs) (suc i) a b e = set-at xs i a b e

-- there is only one value at an index
pub at-one : {A : Type 0} (l : List A) (i : ℕ) (a b : A) → get_elem? l i ≡ some a → get_elem? l i ≡ some b → a ≡ b
at-one l i a b first second = some-injective a b (sym first ∙ second)

pub some-is : {A : Type 0} (a b : A) → ◌≡◌ {A = Option A} (Some a) (Some b) → a ≡ b
some-is {A} a b e = ap value e
  where
    value : Option A → A
    value (Some x) = x
    value None = a

pub none-some : {A : Type 0} (a : A) → ◌≡◌ {A = Option A} None (Some a) → ⊥
none-some a e = cc

pub false-true : false ≡ true → ⊥
false-true e = cc

module _ {B E : Type 0} where
  pub apart-turned : (one other : Known B E) → AreApart one other → AreApart other one
  apart-turned one other apart = record {
    places = λ place first second. apart.places place second first;
    tickets = λ ticket first second. apart.tickets ticket second first;
    firsts = λ first second. apart.firsts second first;
  }

  pub apart-set : (views : List (Known B E)) (id : ℕ) (w : Known B E)
      → ((seat other : ℕ) (a b : Known B E) → (seat ≡ other → ⊥) → get_elem? views seat ≡ some a → get_elem? views other ≡ some b → AreApart a b)
      → ((seat : ℕ) (a : Known B E) → seat ≢ id → get_elem? views seat ≡ some a → AreApart w a)
      → (seat other : ℕ) (a b : Known B E) → (seat ≡ other → ⊥) → get_elem? (set views id w) seat ≡ some a → get_elem? (set views id w) other ≡ some b → AreApart a b
  apart-set views id w old mine seat other a b differ at there =
      ⊎_elim
      (λ (x : (seat ≡ id) × (w ≡ a)). ⊎_elim (λ (y : (other ≡ id) × (w ≡ b)). absurd (differ (x.0 ∙ sym y.0)))
      (λ (y : (other ≢ id) × (get_elem? views other ≡ some b)). subst (λ k. AreApart k b) x.1 (mine other b y.0 y.1)) (at_set views id other w b there))
      (λ (x : (seat ≢ id) × (get_elem? views seat ≡ some a)). ⊎_elim (λ (y : (other ≡ id) × (w ≡ b)). subst (λ k. AreApart a k) y.1 (apart-turned w a (mine seat a x.0 x.1)))
      (λ (y : (other ≢ id) × (get_elem? views other ≡ some b)). old seat other a b differ x.1 y.1) (at_set views id other w b there))
      (at_set views id seat w a at)

  -- the number of tickets
  pub tickets-set : (views : List (Known B E)) (id : ℕ) (v w : Known B E) → get_elem? views id ≡ some v → tickets (set views id w) + one_if v.ticket ≡ tickets views + one_if w.ticket
  tickets-set [] id v w at = absurd (some-ne-none v (sym at))
  tickets-set (x ∷ xs) zero v w at = let same : one_if x.ticket ≡ one_if v.ticket = ap (λ (k : Known B E). one_if k.ticket) (some-injective x v at) in omega (arith, same)
  tickets-set (x ∷ xs) (suc id) v w at = let next = tickets-set xs id v w at in omega (arith, next)

  pub tickets-push : (views : List (Known B E)) (w : Known B E) → tickets (views ++ w ∷ []) ≡ tickets views + one_if w.ticket
  tickets-push [] w = omega arith
  tickets-push (x ∷ xs) w = let next = tickets-push xs w in omega (arith, next)

module _ {S B E : Type 0} (meaning : S → B → ℕ → List E → Type 0) (from : B) (earlier : ℕ) where
  pub knows-set : (log : List E) (drawn served : ℕ) (views : List (Known B E)) (id : ℕ) (w : Known B E)
      → ((seat : ℕ) (u : Known B E) → seat ≢ id → get_elem? views seat ≡ some u → Knows meaning from earlier log drawn served u) → Knows meaning from earlier log drawn served w
      → (seat : ℕ) (u : Known B E) → get_elem? (set views id w) seat ≡ some u → Knows meaning from earlier log drawn served u
  knows-set log drawn served views id w others mine seat u at =
      ⊎_elim (λ (x : (seat ≡ id) × (w ≡ u)). subst (Knows meaning from earlier log drawn served) x.1 mine)
      (λ (x : (seat ≢ id) × (get_elem? views seat ≡ some u)). others seat u x.0 x.1) (at_set views id seat w u at)

  -- a seat that has a start knows what is true
  pub true-of : (log : List E) (drawn served : ℕ) (v : Known B E) → Knows meaning from earlier log drawn served v → (start : B) → v.start ≡ Some start → IsTrue meaning from earlier log drawn served v
  true-of log drawn served v knows start is =
      ⊎_elim (λ (none : v ≡ spent). absurd (none-some start (sym (ap (λ (k : Known B E). k.start) none) ∙ is))) (λ (true-one : IsTrue meaning from earlier log drawn served v). true-one) knows

  -- if a seat has a ticket, it isn't before the one that is served, and was drawn
  pub ticket-of : (log : List E) (drawn served : ℕ) (v : Known B E) → Knows meaning from earlier log drawn served v → (ticket : ℕ) → v.ticket ≡ Some ticket → (served ≤ ticket) × (ticket < drawn)
  ticket-of log drawn served v knows ticket is =
      ⊎_elim (λ (none : v ≡ spent). absurd (none-some ticket (sym (ap (λ (k : Known B E). k.ticket) none) ∙ is))) (λ (known : IsTrue meaning from earlier log drawn served v). known.ticket ticket is) knows

  -- if a seat has the turn, its ticket is the one that is served
  pub turn-of : (log : List E) (drawn served : ℕ) (v : Known B E) → Knows meaning from earlier log drawn served v → v.has_turn ≡ true → (v.ticket ≡ Some served) × (v.seen ≡ log)
  turn-of log drawn served v knows is =
      ⊎_elim (λ (none : v ≡ spent). absurd (false-true (sym (ap (λ (k : Known B E). k.has_turn) none) ∙ is))) (λ (known : IsTrue meaning from earlier log drawn served v). known.turn is) knows

  -- each position of a seat is one in the history
  pub place-of : (log : List E) (drawn served : ℕ) (v : Known B E) → Knows meaning from earlier log drawn served v → (place : ℕ) → IsIn place v.own → place < length log
  place-of log drawn served v knows place is =
      ⊎_elim (λ (none : v ≡ spent). absurd (subst (IsIn place) (ap (λ (k : Known B E). k.own) none) is))
      (λ (known : IsTrue meaning from earlier log drawn served v). below known) knows
    where
      below : IsTrue meaning from earlier log drawn served v → place < length log
      below known = let bounds = in-bounds 0 (length v.seen) v.own place known.own is in
          let long : length log ≡ length v.seen + length known.seen.0 = ap length known.seen.1 ∙ length-append v.seen known.seen.0 in omega (arith, bounds.1, long)

  -- the slot stays as it is if a seat changes that doesn't have the turn
  pub slot-stays : (log : List E) (homes : List (maybe.Option (Option S))) (views : List (Known B E)) (id : ℕ) (v w : Known B E) → get_elem? views id ≡ some v → v.has_turn ≡ false → w.has_turn ≡ false
      → IsHome meaning from earlier log homes views ⊎ IsOut homes views → IsHome meaning from earlier log homes (set views id w) ⊎ IsOut homes (set views id w)
  slot-stays log homes views id v w at old new slot = ⊎_elim (λ home. inl (at-home home)) (λ out. inr (is-out out)) slot
    where
      at-home : IsHome meaning from earlier log homes views → IsHome meaning from earlier log homes (set views id w)
      at-home home = record {
        value = home.value;
        home = home.home;
        stands = home.stands;
        free = λ seat u there. ⊎_elim (λ (x : (seat ≡ id) × (w ≡ u)). sym (ap (λ (k : Known B E). k.has_turn) x.1) ∙ new) (λ (x : (seat ≢ id) × (get_elem? views seat ≡ some u)). home.free seat u x.1)
            (at_set views id seat w u there);
      }

      is-out : IsOut homes views → IsOut homes (set views id w)
      is-out out = record {
        empty = out.empty;
        holder = out.holder;
        known = out.known;
        there = set_else views id out.holder w
            (λ same. false-true (sym old ∙ (ap (λ (k : Known B E). k.has_turn) (at-one views id v out.known at (subst (λ (n : ℕ). get_elem? views n ≡ some out.known) same out.there)) ∙ out.turn)))
            ∙ out.there;
        turn = out.turn;
      }

module _ {S B E : Type 0} where
  -- without the turn a seat has no ticket and no slot
  pub idle : (me : Me (Option S) (Known B E)) → IsReady me → me.0.has_turn ≡ false → (me.0.ticket ≡ None) × (me.1 ≡ [])
  idle me ready free = subst (λ (b : Bool). HasTurn b me) free ready.turn

  -- with the turn it has the slot, which is empty
  pub holding : (me : Me (Option S) (Known B E)) → IsReady me → me.0.has_turn ≡ true → (ticket : ℕ) × (me.0.ticket ≡ Some ticket) × (me.1 ≡ (0, None) ∷ [])
  holding me ready has = subst (λ (b : Bool). HasTurn b me) has ready.turn
