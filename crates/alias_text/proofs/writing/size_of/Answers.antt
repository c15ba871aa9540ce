use Rattle.std.proofs.Common.{arith}
use Rattle.alias_text.proofs.WritingLemmas.{line_fits}
use Rattle.alias_text.proofs.writing.size_of.Goals as goal

-- a line isn't longer than the text
pub line_size-size-requires : goal.line_size-size-requires
line_size-size-requires c =
    omega (arith, c.requires, line_fits c.args.aliases.now c.loop-alias.alias-index c.alias-item.result (omega (arith, c.loop-alias-test.true)) c.alias-item.is)

pub overflow_add-size : goal.overflow_add-size
overflow_add-size c =
    omega (arith, c.requires, c.loop-alias.invariant, c.line_size-size.ensures, line_fits c.args.aliases.now c.loop-alias.alias-index c.alias-item.result (omega (arith, c.loop-alias-test.true)) c.alias-item.is)
