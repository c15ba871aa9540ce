-- The names so far, followed by those of the paths that are left, are all names.
use Rattle.std.proofs.Common.{◌≡◌, length}
use Rattle.tool_script.specs.Replies.{names_of}
use Rattle.tool_script.proofs.ListLemmas.{followed}
use Rattle.tool_script.proofs.replies.names_of.Given as goal

abbrev pub invariant-loop-rest : goal.invariant-loop-rest
invariant-loop-rest l = followed l.names.items (names_of l.rest) ≡ names_of l.paths

abbrev pub decreases-loop-rest : goal.decreases-loop-rest
decreases-loop-rest l = length l.rest
