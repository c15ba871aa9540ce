-- The pairs so far, followed by those of the words that are left, are all pairs.
use Rattle.std.proofs.Common.{◌≡◌, length}
use Rattle.tool_script.specs.Words.{pairs_of}
use Rattle.tool_script.proofs.ListLemmas.{followed}
use Rattle.tool_script.proofs.command.pairs_of.Given as goal

abbrev pub invariant-loop-name : goal.invariant-loop-name
invariant-loop-name l = followed l.pairs.items (pairs_of l.rest) ≡ pairs_of l.words

abbrev pub decreases-loop-name : goal.decreases-loop-name
decreases-loop-name l = length l.rest
