use Rattle.std.proofs.Common.{length}
use Rattle.alias_text.proofs.PairLemmas.{Reading}
use Rattle.alias_text.proofs.pairs.aliases_in.Given as goal

-- the lines before `rest` give the pairs so far
abbrev pub invariant-loop-line : goal.invariant-loop-line
invariant-loop-line l = Reading l.bytes l.rest l.pairs.items

abbrev pub decreases-loop-line : goal.decreases-loop-line
decreases-loop-line l = length l.rest
