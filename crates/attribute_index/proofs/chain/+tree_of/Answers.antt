use Rattle.std.proofs.Common.{arith}
use Rattle.attribute_index.proofs.HeightLemmas.{halves-alike, halves-fill, halves-fit}
use Rattle.attribute_index.proofs.chain.+tree_of.Goals as goal

pub with_sides-requires-clause-alike : goal.with_sides-requires-clause-alike
with_sides-requires-clause-alike t c = halves-alike c.args.count _ _ (omega (arith, c.if-count-eq0.false)) c.tree_of-before.ensures.fill c.tree_of-after.ensures.fill

pub with_sides-requires-clause-fits : goal.with_sides-requires-clause-fits
with_sides-requires-clause-fits t c = halves-fit c.args.count _ _ (omega (arith, c.if-count-eq0.false)) c.tree_of-before.ensures.fill c.tree_of-after.ensures.fill c.ranges.count.fits

pub returns-clause-fill : goal.returns-clause-fill
returns-clause-fill t c = halves-fill c.args.count _ _ (omega (arith, c.if-count-eq0.false)) c.tree_of-before.ensures.fill c.tree_of-after.ensures.fill _ c.with_sides.ensures.under
