-- What a pass knows, and what each call of a turn makes of it.
use Rattle.std.specs.Prelude.{◌≡◌, ℕ, Bool, true, false, List, [], ◌∷◌, ◌++◌, length, Option, Some}
use Rattle.atomic_table.specs.Seated.{TableId}
use Rattle.shared_turn.specs.declared.known.Known.{Known}
use Rattle.shared_turn.specs.declared.share.Share.{Share}
use Rattle.shared_turn.specs.Places.{StartsWith, ArePlaces, all_places, longer, merged}
use Rattle.shared_turn.specs.Shares.{whole, one, without, together}

-- A view of the run: which turn it is of, what the run began with, how many events it had before that, the events that
-- were seen since then, the positions of the pass's own among them, which passes of the run it stands for, and whether
-- it has the turn.
pub record View (B E : Type 0) : Type 0 where
  pub table : TableId
  pub start : Option B
  pub before : ℕ
  pub seen : List E
  pub own : List ℕ
  pub share : Share
  pub has_turn : Bool

module _ {B E : Type 0} where
  -- the view of a seat
  abbrev pub view_of : TableId → Known B E → View B E
  view_of table known = record {
    table = table;
    start = known.start;
    before = known.before;
    seen = known.seen;
    own = known.own;
    share = known.share;
    has_turn = known.has_turn;
  }

  -- the only pass of a run, which has seen exactly these events; all of them are its own
  abbrev pub opened : TableId → B → ℕ → List E → View B E
  opened table start before seen = record { table = table; start = Some start; before = before; seen = seen; own = all_places (length seen); share = whole; has_turn = false }

  -- a pass that has seen the same, and recorded nothing
  abbrev pub noted : View B E → View B E
  noted view = record view { own = []; share = one }

  -- the pass that it was noted from
  abbrev pub giving : View B E → View B E
  giving view = record view { share = without 1 view.share }

  -- the pass has the turn, and has also seen these events
  abbrev pub inside : List E → View B E → View B E
  inside events view = record view { seen = view.seen ++ events; has_turn = true }

  -- the pass passed the turn on, and recorded nothing
  abbrev pub outside : View B E → View B E
  outside view = record view { has_turn = false }

  -- the pass recorded this event, and passed the turn on
  abbrev pub recorded : E → View B E → View B E
  recorded event view = record view { seen = view.seen ++ event ∷ []; own = view.own ++ length view.seen ∷ []; has_turn = false }

  -- the pass also knows what the other one did: it has seen the longer of both histories, the positions of both are
  -- its own, and it stands for both
  abbrev pub gathered : View B E → View B E → View B E
  gathered view other = record view { seen = longer view.seen other.seen; own = merged view.own other.own; share = together view.share other.share }

  -- both are of one run and had seen a beginning of what is seen now, and each own position of theirs is one of
  -- those now, once
  pub record IsMet (view other met : View B E) : Type 0 where
    pub is : met ≡ gathered view other
    pub start : view.start ≡ other.start
    pub before : view.before ≡ other.before
    pub starts : StartsWith met.seen view.seen
    pub starts_other : StartsWith met.seen other.seen
    pub places : ArePlaces 0 (length met.seen) met.own

  module _ {S : Type 0} (meaning : S → B → ℕ → List E → Type 0) where
    -- the value is the run's, if the view has seen exactly this history
    abbrev pub Stands : S → View B E → List E → Type 0
    Stands value view log = (start : B) → view.start ≡ Some start → meaning value start view.before log

    -- The pass got the turn, and with it the value as all that was recorded left it. If it is the only pass of the
    -- run, it had seen the whole history, in which each position is its own.
    pub record Enters (value : S) (old new : View B E) : Type 0 where
      pub between : List E
      pub is : new ≡ inside between old
      pub stands : Stands value old new.seen
      pub alone : old.share ≡ whole → (between ≡ []) × (old.own ≡ all_places (length old.seen))

    -- one event was recorded in the value, after all that the pass has seen
    pub record IsRecorded (newest : S → List E) (value : S) (view : View B E) (event : E) : Type 0 where
      pub newest_is : newest value ≡ event ∷ []
      pub stands : Stands value view (view.seen ++ event ∷ [])
