-- The moments of a clock that several connections ask.
use Rattle.std.specs.Prelude.{ℕ, Option}
use Rattle.kr_outside.specs.Clock.{GivesFirst}

-- A call of a clock of this type returned the moment: the clock before the call, and after it.
pub record IsMoment {C : Type 0} (coming : C → Option (ℕ → ℕ)) (moment : ℕ) : Type 0 where
  pub old : C
  pub new : C
  pub first : GivesFirst (coming old) moment (coming new)
