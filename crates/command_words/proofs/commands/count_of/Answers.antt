use Rattle.command_words.proofs.CommandLemmas.{no_zero}
use Rattle.command_words.proofs.commands.count_of.Goals as goal

pub returns-then-number-eq0 : goal.returns-then-number-eq0
returns-then-number-eq0 c = rw c.in-Some.is (no_zero c.in-Some-long_number.number c.in-Some.text.now c.in-Some-long_number.ensures c.if-number-eq0.true)
