use Rattle.std.proofs.Common.{length, eq-eqb}
use Rattle.bus_rules.proofs.rule.have_same.Goals as goal

-- both have as many
pub returns-then-pairs-others : goal.returns-then-pairs-others
returns-then-pairs-others c = rw (eq-eqb (length c.args.pairs.now) (length c.args.others.now) c.if-pairs-others.true) c.all_are.ensures
