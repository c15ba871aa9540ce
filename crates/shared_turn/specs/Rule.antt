-- The rule of the table. Word 0 counts the events of the run, word 1 the tickets that were drawn, and word 2 is the ticket
-- that is served. The value is in slot 0, which is empty while a seat has the turn.
use Rattle.std.specs.Prelude.{◌≡◌, ◌⊎◌, ℕ, ◌+◌, ◌<◌, ◌≤◌, true, false, List, [], ◌∷◌, length, Option, Some, None}
use mathlib.Core.Option.{none, some}
use mathlib.Core.Option as maybe
use lib.ListN.{get_elem?}
use Rattle.atomic_table.specs.Table.{State}
use Rattle.shared_turn.specs.declared.known.Known.{Known}
use Rattle.shared_turn.specs.Shares.{whole, one, without, together, IsFirst, noted_in, HasAny, LeavesOut}
use Rattle.shared_turn.specs.declared.share.Share.TheVariants as share
use Rattle.shared_turn.specs.Places.{StartsWith, longer, shorter, ArePlaces, IsIn, all_places, merged}

-- one if there is a ticket, otherwise zero
abbrev pub one_if : Option ℕ → ℕ
one_if None = 0
one_if (Some ticket) = 1

module _ {B E : Type 0} where
  -- the first seat: what the value keeps of its history was seen, and all of it is the seat's own
  abbrev pub first_known : B → ℕ → List E → Known B E
  first_known start before seen = record { start = Some start; before = before; seen = seen; own = all_places (length seen); share = whole; met = []; met_start = Some start; met_before = before; ticket = None; has_turn = false }

  -- the seat that a new one was noted from
  abbrev pub giving : Known B E → Known B E
  giving known = record known { share = without 1 known.share }

  -- the new seat, which has seen what that one has
  abbrev pub noted : Known B E → Known B E
  noted known = record { start = known.start; before = known.before; seen = known.seen; own = []; share = one; met = []; met_start = known.start; met_before = known.before; ticket = None; has_turn = false }

  -- a seat that also knows what another one does
  abbrev pub gathered : Known B E → Known B E → Known B E
  gathered known other = record {
    start = known.start;
    before = known.before;
    seen = longer known.seen other.seen;
    own = merged known.own other.own;
    share = together known.share other.share;
    met = shorter known.seen other.seen;
    met_start = other.start;
    met_before = other.before;
    ticket = known.ticket;
    has_turn = known.has_turn;
  }

  -- a seat that was joined to another
  abbrev pub spent : Known B E
  spent = record { start = None; before = 0; seen = []; own = []; share = share.Only 0; met = []; met_start = None; met_before = 0; ticket = None; has_turn = false }

  -- the number of seats that have a ticket
  abbrev pub tickets : List (Known B E) → ℕ
  tickets [] = 0
  tickets (known ∷ others) = one_if known.ticket + tickets others

  -- the number of noted passes that seats stand for
  abbrev pub all_noted : List (Known B E) → ℕ
  all_noted [] = 0
  all_noted (known ∷ others) = noted_in known.share + all_noted others

  -- the position is a seat's own
  pub record IsOwned (views : List (Known B E)) (place : ℕ) : Type 0 where
    pub owner : ℕ
    pub known : Known B E
    pub there : get_elem? views owner ≡ some known
    pub own : IsIn place known.own

  -- two seats have no own position in common, and no ticket, and only one is the first
  pub record AreApart (one other : Known B E) : Type 0 where
    pub places : (place : ℕ) → IsIn place one.own → IsIn place other.own → ⊥
    pub tickets : (ticket : ℕ) → one.ticket ≡ Some ticket → other.ticket ≡ Some ticket → ⊥
    pub firsts : IsFirst one.share → IsFirst other.share → ⊥

module _ {S B E : Type 0} where
  -- a seat has the turn, and the value
  pub record IsOut (homes : List (maybe.Option (Option S))) (views : List (Known B E)) : Type 0 where
    pub empty : homes ≡ none ∷ []
    pub holder : ℕ
    pub known : Known B E
    pub there : get_elem? views holder ≡ some known
    pub turn : known.has_turn ≡ true

module _ {S B E : Type 0} (meaning : S → B → ℕ → List E → Type 0) (from : B) (earlier : ℕ) where
  -- What a seat knows that wasn't joined to another one: the history begins with what it has seen. If its turn has
  -- come, its ticket is the one that is served, and it has seen the whole history.
  pub record IsTrue (log : List E) (drawn served : ℕ) (known : Known B E) : Type 0 where
    pub start : known.start ≡ Some from
    pub before : known.before ≡ earlier
    pub seen : StartsWith log known.seen
    pub met : StartsWith known.seen known.met
    pub met_start : known.met_start ≡ Some from
    pub met_before : known.met_before ≡ earlier
    pub own : ArePlaces 0 (length known.seen) known.own
    pub share : HasAny known.share
    pub ticket : (ticket : ℕ) → known.ticket ≡ Some ticket → (served ≤ ticket) × (ticket < drawn)
    pub turn : known.has_turn ≡ true → (known.ticket ≡ Some served) × (known.seen ≡ log)

  -- what any seat knows: nothing once it was joined to another one, otherwise what is true
  abbrev pub Knows : List E → ℕ → ℕ → Known B E → Type 0
  Knows log drawn served known = (known ≡ spent) ⊎ IsTrue log drawn served known

  -- no seat has the turn, and the value is what the history makes of the start
  pub record IsHome (log : List E) (homes : List (maybe.Option (Option S))) (views : List (Known B E)) : Type 0 where
    pub value : S
    pub home : homes ≡ some (Some value) ∷ []
    pub stands : meaning value from earlier log
    pub free : (seat : ℕ) (known : Known B E) → get_elem? views seat ≡ some known → known.has_turn ≡ false

  -- There is one history, in which each position is a seat's own. Tickets are drawn in order, each is served in its turn, and each that isn't
  -- served yet is a seat's. The first seat stands for all passes but those that the others stand for.
  pub record Kept (state : State (Option S) (Known B E)) : Type 0 where
    pub log : List E
    pub drawn : ℕ
    pub served : ℕ
    pub words : state.words ≡ (earlier + length log) ∷ drawn ∷ served ∷ []
    pub few : drawn < 18446744073709551616
    pub knows : (seat : ℕ) (known : Known B E) → get_elem? state.views seat ≡ some known → Knows log drawn served known
    pub apart : (seat other : ℕ) (known others : Known B E) → (seat ≡ other → ⊥) → get_elem? state.views seat ≡ some known → get_elem? state.views other ≡ some others
        → AreApart known others
    pub waiting : served + tickets state.views ≡ drawn
    pub shares : (seat : ℕ) (known : Known B E) → get_elem? state.views seat ≡ some known → LeavesOut (all_noted state.views) known.share
    pub owned : (place : ℕ) → place < length log → IsOwned state.views place
    pub slot : IsHome log state.homes state.views ⊎ IsOut state.homes state.views
