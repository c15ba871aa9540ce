-- The plan of a stream in memory: how long its pieces are, and which of its calls should fail (docs/DECISIONS.md,
-- "A stream in memory follows a plan").
use Rattle.std.specs.Prelude.{ℕ, ◌+◌, min, max, List, slice_get, Contains}
use Rattle.std.specs.Option.{option_map_or}
use Rattle.kr_outside.specs.Faults.{last_count}

-- the lengths of the pieces, one for each call, and how many calls there were
pub record PiecePlan : Type 0 where
  pub lengths : List ℕ
  pub calls : ℕ

-- such a plan, the numbers of the calls that should fail, and how many have failed
pub record FailingPlan : Type 0 where
  pub pieces : PiecePlan
  pub failing : List ℕ
  pub faults : ℕ

-- the number after this one; the calls after the last number of 64 bits share it
abbrev pub next_count : ℕ → ℕ
next_count count = min (count + 1) last_count

-- the lengths before the first call
abbrev pub pieces_at_start : List ℕ → PiecePlan
pieces_at_start lengths = record { lengths = lengths; calls = 0 }

-- the plan before the first call
abbrev pub plan_at_start : List ℕ → List ℕ → FailingPlan
plan_at_start lengths failing =
    record { pieces = pieces_at_start lengths; failing = failing; faults = 0 }

-- how many of `bytes` bytes the next call moves: no more than the length planned for its number, where 0 counts as
-- 1, and after the plan all of them
abbrev pub piece_of : PiecePlan → ℕ → ℕ
piece_of plan bytes =
    option_map_or (λ planned. min bytes (max planned 1)) (slice_get plan.lengths plan.calls) bytes

-- one more call was made
abbrev pub after_call : PiecePlan → PiecePlan
after_call plan = record plan { calls = next_count plan.calls }

-- the next call should fail
abbrev pub FailsNow : FailingPlan → Type 0
FailsNow plan = Contains plan.failing plan.pieces.calls

-- one more call was made, and it didn't fail
abbrev pub after_success : FailingPlan → FailingPlan
after_success plan = record plan { pieces = after_call plan.pieces }

-- one more call was made, and it failed
abbrev pub after_failure : FailingPlan → FailingPlan
after_failure plan =
    record plan { pieces = after_call plan.pieces; faults = next_count plan.faults }
