-- What a contract sees of the sinks in memory.
use Rattle.std.specs.Prelude.{ℕ, Bool, List}
use Rattle.kr_memory.specs.Plan.{PiecePlan, FailingPlan}

-- a sink that fails as planned: the bytes kept, for how many more it has memory, its plan, and
-- whether it was closed
pub record SinkState : Type 0 where
  pub kept : List ℕ
  pub room : ℕ
  pub plan : FailingPlan
  pub is_closed : Bool

-- a sink that never fails: the bytes kept, how many it keeps at most, the lengths of its pieces, and
-- whether it was closed
pub record SteadySinkState : Type 0 where
  pub kept : List ℕ
  pub room : ℕ
  pub pieces : PiecePlan
  pub is_closed : Bool
