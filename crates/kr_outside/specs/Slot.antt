-- What calls of a slot or a folder keep, and what those that only look leave unchanged.
use Rattle.std.specs.Prelude.{◌≡◌, ℕ, ◌≤◌, Bool, IsTrue, Option, Result, IsErr}
use Rattle.kr_outside.specs.Faults.{Rose, KeepsSteady, EndsAs}
use Rattle.kr_outside.specs.Moments.{Elapses}
use Rattle.kr_outside.specs.RenameDisk.{Image, Temporary, LeavesNoMore}

-- What one or several calls of a slot or a folder keep, whether or not they end in a fault of it:
pub record KeepsNature {S : Type 0} (is_honest is_steady : S → Bool) (faults : S → ℕ) (fault : Type 0) (old new : S) : Type 0 where
  -- an honest one stays so, and no other becomes so
  pub honest : is_honest new ≡ is_honest old
  -- the count never falls
  pub later : faults old ≤ faults new
  -- and they end in a fault only if it rose
  pub cause : fault → Rose (faults old) (faults new)
  -- a steady one stays so, no other becomes so, and a steady one's count is as before
  pub steady : KeepsSteady (is_steady old) (is_steady new) (faults old) (faults new)

-- What one call of a slot keeps: the same, and
pub record IsOneCall {S C T E : Type 0} (moment : S → ℕ) (left_since : S → ℕ → Image → Type 0) (may_leave : S → Image → Type 0) (is_honest is_steady : S → Bool) (faults : S → ℕ) (failed : S → Option C) (call : C) (old new : S) (result : Result T E) : Type 0 where
  pub kept : KeepsNature is_honest is_steady faults (IsErr result) old new
  -- the clock of an honest slot makes a step
  pub time : IsTrue (is_honest old) → Elapses moment left_since may_leave old new result
  -- it is the last call, if it failed
  pub last : EndsAs call (failed new) result

-- What calls that only look leave unchanged, if the slot is honest:
pub record OnlyLooks {S : Type 0} (seen : S → Image) (temporary : S → Temporary) (may_leave : S → Image → Type 0) (is_honest : S → Bool) (old new : S) : Type 0 where
  -- what a read returns
  pub same : IsTrue (is_honest old) → seen new ≡ seen old
  -- the temporary file
  pub same_temporary : IsTrue (is_honest old) → temporary new ≡ temporary old
  -- what a crash may leave, which is no more
  pub crash : IsTrue (is_honest old) → LeavesNoMore (may_leave old) (may_leave new)
