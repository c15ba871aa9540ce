-- The calls so far are those from before, followed by the first ones.
use Rattle.std.proofs.Common.{◌≡◌, ◌++◌}
use Rattle.load_plan.specs.Plan.{first, search}
use Rattle.load_plan.proofs.plan.add_searches.Given as goal

abbrev pub invariant-loop-group : goal.invariant-loop-group
invariant-loop-group l = l.calls.items ≡ l.fn.calls.items ++ first search l.group
