-- The items so far were deleted, and the step is that of the items and the replies that are left.
use Rattle.std.proofs.Common.{◌≡◌, length}
use Rattle.tool_script.specs.Script.{deletes, cleared, step_of}
use Rattle.tool_script.proofs.steps.deletes_step.Given as goal

abbrev pub invariant-loop-paths : goal.invariant-loop-paths
invariant-loop-paths l =
    step_of (deletes l.paths l.answers) (cleared (length l.unlocked) l.paths l.answers) (length l.answers)
    ≡ step_of (deletes l.unlocked l.replies) (cleared (length l.unlocked) l.unlocked l.replies) (length l.replies)

abbrev pub decreases-loop-paths : goal.decreases-loop-paths
decreases-loop-paths l = length l.paths
