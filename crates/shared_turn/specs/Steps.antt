-- What is known after each step on the table: of the step, the seat before, the number found, and the seat after.
use Rattle.std.specs.Prelude.{◌≡◌, ℕ, true, false, List, [], ◌∷◌, ◌++◌, length, Option, Some, None}
use Rattle.atomic_table.specs.Table.{Me, Step, rest}
use Rattle.shared_turn.specs.declared.known.Known.{Known}
use Rattle.shared_turn.specs.Places.{StartsWith, ArePlaces, all_places}
use Rattle.shared_turn.specs.Shares.{whole}

module _ {S B E : Type 0} where
  -- a ticket was drawn if the number was the one that was expected
  pub record drawn (step : Step S) (old : Me S (Known B E)) (found : ℕ) (new : Me S (Known B E)) : Type 0 where
    pub hit : found ≡ step.first → new.0 ≡ record old.0 { ticket = Some found }
    pub miss : (found ≡ step.first → ⊥) → new.0 ≡ old.0
    pub slots : new.1 ≡ old.1

  -- the turn was passed on, and the slot given back
  abbrev pub handed : Step S → Me S (Known B E) → ℕ → Me S (Known B E) → Type 0
  handed step old found new = new ≡ ((record old.0 { ticket = None; has_turn = false }), rest old.1)

  -- another seat's run began in the same way, what it had seen is a beginning of what this one has seen, and the
  -- own positions rise
  pub record compared (step : Step S) (old : Me S (Known B E)) (found : ℕ) (new : Me S (Known B E)) : Type 0 where
    pub is : new ≡ ((record old.0 { met = [] }), old.1)
    pub start : old.0.start ≡ old.0.met_start
    pub before : old.0.before ≡ old.0.met_before
    pub starts : StartsWith old.0.seen old.0.met
    pub places : ArePlaces 0 (length old.0.seen) old.0.own

module _ {S B E : Type 0} (meaning : S → B → ℕ → List E → Type 0) where
  -- The seat has the turn, the slot with the value, and has seen the whole history. If it is the only one of the run, it had seen that before, and
  -- each position is its own.
  pub record Turns (old new : Me (Option S) (Known B E)) : Type 0 where
    pub value : S
    pub between : List E
    pub is : new ≡ ((record old.0 { seen = old.0.seen ++ between; has_turn = true }), (0, Some value) ∷ old.1)
    pub stands : (start : B) → old.0.start ≡ Some start → meaning value start old.0.before (old.0.seen ++ between)
    pub alone : old.0.share ≡ whole → (between ≡ []) × (old.0.own ≡ all_places (length old.0.seen))

  -- the turn has come if the number is the seat's ticket
  pub record entered (step : Step (Option S)) (old : Me (Option S) (Known B E)) (found : ℕ) (new : Me (Option S) (Known B E)) : Type 0 where
    pub hit : old.0.ticket ≡ Some found → Turns old new
    pub miss : (old.0.ticket ≡ Some found → ⊥) → new ≡ old

module _ {S B E : Type 0} (newest : S → List E) where
  -- the newest event of the value that the seat has was counted
  abbrev pub counted : Step (Option S) → Me (Option S) (Known B E) → ℕ → Me (Option S) (Known B E) → Type 0
  counted step old found new =
      (value : S) → old.1 ≡ (0, Some value) ∷ []
      → new ≡ ((record old.0 { seen = old.0.seen ++ newest value; own = old.0.own ++ length old.0.seen ∷ [] }), old.1)
