-- The calls so far are those from before, followed by the first ones.
use Rattle.std.proofs.Common.{◌≡◌, ◌++◌}
use Rattle.load_plan.specs.Plan.{first, create}
use Rattle.load_plan.proofs.plan.add_creates.Given as goal

abbrev pub invariant-loop-item : goal.invariant-loop-item
invariant-loop-item l = l.calls.items ≡ l.fn.calls.items ++ first (create l.seed) l.item
