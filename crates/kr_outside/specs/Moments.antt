-- The clock of a slot, and what a crash since each of its moments might have left.
use Rattle.std.specs.Prelude.{ℕ, ◌≤◌, ◌<◌, ◌⊎◌, Result, IsOk}
use Rattle.kr_outside.specs.RenameDisk.{Image}

-- One step of a slot. Its clock never falls, and rises with each step that succeeds; a crash since t
-- might have left what it might have left before this step, or what it may leave after it.
pub record Elapses {S T E : Type 0} (moment : S → ℕ) (left_since : S → ℕ → Image → Type 0) (may_leave : S → Image → Type 0) (old new : S) (result : Result T E) : Type 0 where
  pub later : moment old ≤ moment new
  pub rises : IsOk result → moment old < moment new
  pub nothing_else : (t : ℕ) (image : Image) → t ≤ moment old
      → left_since new t image → left_since old t image ⊎ may_leave new image
  pub keeps : (t : ℕ) (image : Image) → t ≤ moment old → left_since old t image → left_since new t image

-- Any number of steps of a slot, after which and between which a crash leaves these images: `each`
-- speaks of the moments since the first of them, and `before` of a run that began earlier.
pub record LeavesOnly {S : Type 0} (moment : S → ℕ) (left_since : S → ℕ → Image → Type 0) (old new : S) (images : Image → Type 0) : Type 0 where
  pub later : moment old ≤ moment new
  pub each : (image : Image) → left_since new (moment old) image → images image
  pub before : (t : ℕ) (image : Image) → t ≤ moment old
      → left_since new t image → left_since old t image ⊎ images image
