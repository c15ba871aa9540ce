use Rattle.std.proofs.Common.{length}
use Rattle.command_words.proofs.FoundLemmas.{ReadSo}
use Rattle.command_words.proofs.arguments.arguments_of.Given as goal

-- the words before `rest` give what was found
abbrev pub invariant-loop-found : goal.invariant-loop-found
invariant-loop-found l = ReadSo l.words l.rest l.found

abbrev pub decreases-loop-found : goal.decreases-loop-found
decreases-loop-found l = length l.rest
