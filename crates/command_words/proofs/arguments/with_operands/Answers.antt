use Rattle.std.proofs.Common.{arith}
use Rattle.command_words.proofs.FoundLemmas.{all_none, all_more, all_full}
use Rattle.command_words.proofs.arguments.with_operands.Goals as goal

pub loop-word-init : goal.loop-word-init
loop-word-init c = all_none c.args.found c.args.words.now

-- one more operand
pub loop-word-preserved : goal.loop-word-preserved
loop-word-preserved c =
    all_more c.args.found c.loop-word.all c.in-Some.more c.args.words.now c.loop-word.word-index c.word-item.result (omega arith) c.word-item.is
    c.loop-word.invariant c.in-Some.ensures

pub returns-in_default : goal.returns-in_default
returns-in_default c = all_full c.args.found c.loop-word.all c.args.words.now c.loop-word.word-index (omega arith) c.loop-word.invariant c.in_default.ensures
