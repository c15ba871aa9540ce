-- Which calls of a folder or host in memory should fail.
use Rattle.std.specs.Prelude.{ℕ, List, Contains}
use Rattle.kr_memory.specs.Plan.{next_count}

-- the numbers of the calls that should fail, how many calls there were, and how many have failed
pub record PlannedCalls : Type 0 where
  pub failing : List ℕ
  pub calls : ℕ
  pub faults : ℕ

-- before the first call
abbrev pub calls_at_start : List ℕ → PlannedCalls
calls_at_start failing = record { failing = failing; calls = 0; faults = 0 }

-- the next call should fail
abbrev pub FailsNow : PlannedCalls → Type 0
FailsNow plan = Contains plan.failing plan.calls

-- one more call was made, and it didn't fail
abbrev pub after_success : PlannedCalls → PlannedCalls
after_success plan = record plan { calls = next_count plan.calls }

-- one more call was made, and it failed
abbrev pub after_failure : PlannedCalls → PlannedCalls
after_failure plan = record plan { calls = next_count plan.calls; faults = next_count plan.faults }
