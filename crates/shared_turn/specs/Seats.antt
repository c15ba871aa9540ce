-- What a seat knows between two calls of its pass.
use Rattle.std.specs.Prelude.{◌≡◌, ℕ, Bool, true, false, List, [], ◌∷◌, length, Option, Some, None}
use Rattle.atomic_table.specs.Table.{Me}
use Rattle.atomic_table.specs.Seated.{TableId}
use Rattle.shared_turn.specs.declared.known.Known.{Known}
use Rattle.shared_turn.specs.Places.{ArePlaces}

module _ {S B E : Type 0} where
  -- Without the turn it has no ticket, and no slot. With it, it has the slot, which is empty.
  abbrev pub HasTurn : Bool → Me (Option S) (Known B E) → Type 0
  HasTurn false me = (me.0.ticket ≡ None) × (me.1 ≡ [])
  HasTurn true me = (ticket : ℕ) × (me.0.ticket ≡ Some ticket) × (me.1 ≡ (0, None) ∷ [])

  -- A seat between two calls of its pass: it has seen a run begin, nothing is left to compare with what it has seen, its
  -- own positions are among those of what it has seen, and it has a ticket and a slot exactly if it has the turn.
  pub record IsReady (me : Me (Option S) (Known B E)) : Type 0 where
    pub start : (start : B) × (me.0.start ≡ Some start)
    pub met : me.0.met ≡ []
    pub places : ArePlaces 0 (length me.0.seen) me.0.own
    pub turn : HasTurn me.0.has_turn me

-- a seat of the run that has no ticket
pub record IsWithoutTicket {B E : Type 0} (known : Known B E) : Type 0 where
  pub start : (start : B) × (known.start ≡ Some start)
  pub ticket : known.ticket ≡ None
  pub turn : known.has_turn ≡ false

module _ {S B E : Type 0} where
  -- the seat with this ticket
  abbrev pub with_ticket : ℕ → Me (Option S) (Known B E) → Me (Option S) (Known B E)
  with_ticket ticket me = ((record me.0 { ticket = Some ticket }), me.1)

  -- the seat without the turn, its ticket and its slot
  abbrev pub without_turn : Me (Option S) (Known B E) → Me (Option S) (Known B E)
  without_turn me = ((record me.0 { ticket = None; has_turn = false }), [])

  -- a seat that has the turn, and in its slot the value that its history makes of the start
  pub record HasSlot (meaning : S → B → ℕ → List E → Type 0) (value : S) (me : Me (Option S) (Known B E)) : Type 0 where
    pub start : (start : B) × (me.0.start ≡ Some start)
    pub turn : me.0.has_turn ≡ true
    pub slot : me.1 ≡ (0, Some value) ∷ []
    pub stands : (start : B) → me.0.start ≡ Some start → meaning value start me.0.before me.0.seen

-- three words and a slot
abbrev pub HasThreeWords : TableId → Type 0
HasThreeWords table = (table.words ≡ 3) × (table.slots ≡ 1)
