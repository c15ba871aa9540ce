-- What a host counts: the folders that it opens, and the doors that it takes back.
use Rattle.std.specs.Prelude.{◌≡◌, ℕ, ◌+◌, ◌⊎◌, min, Bool, List, Option, Result, Ok, Err}
use Rattle.kr_outside.specs.RenameDisk.{Image}
use Rattle.kr_outside.specs.Faults.{last_count}

-- one more was given; the count stays at its last number
abbrev pub GivesOne : ℕ → ℕ → Type 0
GivesOne old new = new ≡ min (old + 1) last_count

-- one more was given, or none
abbrev pub GivesOneAtMost : ℕ → ℕ → Type 0
GivesOneAtMost old new = (new ≡ old) ⊎ GivesOne old new

-- a folder that is opened is counted, and a refusal counts none
abbrev pub CountsGiven : {T E : Type 0} → ℕ → ℕ → Result T E → Type 0
CountsGiven old new (Ok folder) = GivesOne old new
CountsGiven old new (Err refused) = new ≡ old

-- What a host reports of the doors that it took back:
pub record ShutDoors : Type 0 where
  -- how many they are, a count that stays at its last number
  pub count : ℕ
  -- the path at which others connected to the last of them
  pub address : List ℕ
  -- how many links the last of them had given
  pub given : ℕ
  -- whether the last of them had ended
  pub has_ended : Bool

-- a door at this path that had given so many links, and had ended or not, was taken back
abbrev pub TakesBack : ShutDoors → List ℕ → ℕ → Bool → ShutDoors → Type 0
TakesBack old address given has_ended new =
    new ≡ record { count = min (old.count + 1) last_count; address = address; given = given; has_ended = has_ended }

-- what the folders at all paths stand for is reported as before
abbrev pub TellsAsBefore : {H : Type 0} → (H → List ℕ → Option (List ℕ → Image)) → H → H → Type 0
TellsAsBefore told old new = (path : List ℕ) → told new path ≡ told old path
