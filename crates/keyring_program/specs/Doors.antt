-- The door at which a run serves links, as its host reports it.
use Rattle.std.specs.Prelude.{◌≡◌, ℕ, ◌⊎◌, Bool, IsTrue, List, Option, Some}
use Rattle.kr_outside.specs.Host.{ShutDoors, TakesBack}

-- a door that gave so many links has ended, or they are as many as were to be accepted
abbrev pub IsServed : Option ℕ → ℕ → Bool → Type 0
IsServed most given has_ended = IsTrue has_ended ⊎ (most ≡ Some given)

-- The host took back a door at this path that had ended, or had given as many links as were to be accepted.
pub record HasServed (path : List ℕ) (most : Option ℕ) (old new : ShutDoors) : Type 0 where
  pub given : ℕ
  pub has_ended : Bool
  pub back : TakesBack old path given has_ended new
  pub served : IsServed most given has_ended

-- the host took back one door, or none
abbrev pub TakesBackOneAtMost : ShutDoors → ShutDoors → Type 0
TakesBackOneAtMost old new =
    (new ≡ old) ⊎ ((path : List ℕ) × (given : ℕ) × (has_ended : Bool) × TakesBack old path given has_ended new)
