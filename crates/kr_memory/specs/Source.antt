-- What a contract sees of the sources in memory.
use Rattle.std.specs.Prelude.{ℕ, Bool, List}
use Rattle.kr_memory.specs.Plan.{PiecePlan, FailingPlan}

-- a source that fails as planned: the bytes left, its plan, and whether it was closed
pub record SourceState : Type 0 where
  pub left : List ℕ
  pub plan : FailingPlan
  pub is_closed : Bool

-- a source that never fails: the bytes left, the lengths of its pieces, and whether it was closed
pub record SteadySourceState : Type 0 where
  pub left : List ℕ
  pub pieces : PiecePlan
  pub is_closed : Bool
