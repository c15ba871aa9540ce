use Rattle.std.proofs.Common.{take}
use Rattle.command_words.specs.Found.{HasAll}
use Rattle.command_words.proofs.arguments.with_operands.Given as goal

-- the words so far are operands
abbrev pub invariant-loop-word : goal.invariant-loop-word
invariant-loop-word l = HasAll l.found (take l.word-index l.words) l.all
