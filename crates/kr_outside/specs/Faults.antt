-- The count of faults that each object of the outside has: when it rose, and what a steady object keeps
-- (docs/DECISIONS.md, "A count of faults says why a device failed").
use Rattle.std.specs.Prelude.{◌≡◌, ℕ, ◌-◌, ◌^◌, ◌<◌, ◌≤◌, ◌⊎◌, Bool, IsTrue, Option, None, Some, Result, IsOk, IsErr}

-- the last number that a count of 64 bits has
abbrev pub last_count : ℕ
last_count = 2 ^ 64 - 1

-- the count rose, or is where it can't rise any more
abbrev pub Rose : ℕ → ℕ → Type 0
Rose old new = (old < new) ⊎ (new ≡ last_count)

-- the opposite: the count is as before, and isn't the last one
abbrev pub StandsStill : ℕ → ℕ → Type 0
StandsStill old new = (new ≡ old) × (new ≡ last_count → ⊥)

-- the count never falls, and a failure is returned only if it rose
pub record HasCause {T E : Type 0} (old new : ℕ) (result : Result T E) : Type 0 where
  pub later : old ≤ new
  pub failed : IsErr result → Rose old new

-- a steady object stays so, and no other becomes so; a steady one's count is as before
pub record KeepsSteady (was is : Bool) (old new : ℕ) : Type 0 where
  pub same : is ≡ was
  pub still : IsTrue was → new ≡ old

-- the count of a steady object isn't at its maximum, so if it doesn't rise, no call failed
abbrev pub IsBelowLast : Bool → ℕ → Type 0
IsBelowLast is_steady count = IsTrue is_steady → count < last_count

-- the last call, if it failed: this call if it was refused, and None if it succeeded
pub record EndsAs {C T E : Type 0} (call : C) (failed : Option C) (result : Result T E) : Type 0 where
  pub refused : IsErr result → failed ≡ Some call
  pub succeeded : IsOk result → failed ≡ None
