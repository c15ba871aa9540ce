-- The links that a listener gives, and what it says of them.
use Rattle.std.specs.Prelude.{◌≡◌, ℕ, List, [], ◌∷◌, Option, None, Some, Bool, IsTrue, IsFalse, Result, Ok, Err}
use Rattle.kr_outside.specs.Host.{GivesOne}

-- What a listener reports of a link before it gives it:
pub record LinkReport : Type 0 where
  -- the bytes that its input has left, if the input reports them
  pub left : Option (List ℕ)
  -- the bytes that were written to its output, if the output reports them
  pub written : Option (List ℕ)
  -- whether neither its input nor its output ever fails
  pub is_steady : Bool

-- of the links that are reported, the first was given and the rest are still to come, and no link was given only if
-- none was left
abbrev pub GivesNext : Option (List LinkReport) → Option LinkReport → Option (List LinkReport) → Type 0
GivesNext None given new = new ≡ None
GivesNext (Some []) given new = (given ≡ None) × (new ≡ Some [])
GivesNext (Some (report ∷ rest)) given new = (given ≡ Some report) × (new ≡ Some rest)

-- an end of a link is open, and hasn't failed yet
pub record IsNewEnd (is_closed : Bool) (faults : ℕ) : Type 0 where
  pub is_open : IsFalse is_closed
  pub none : faults ≡ 0

-- a link that is given is counted, and nothing else is
abbrev pub CountsLink : {L E : Type 0} → ℕ → ℕ → Result (Option L) E → Type 0
CountsLink old new (Ok None) = new ≡ old
CountsLink old new (Ok (Some link)) = GivesOne old new
CountsLink old new (Err refused) = new ≡ old

-- the listener has ended once it returned None, and gives no link from then on; a refusal leaves it as it was
abbrev pub NotesEnd : {L E : Type 0} → Bool → Bool → Result (Option L) E → Type 0
NotesEnd was is (Ok None) = IsTrue is
NotesEnd was is (Ok (Some link)) = IsFalse was × IsFalse is
NotesEnd was is (Err refused) = is ≡ was
