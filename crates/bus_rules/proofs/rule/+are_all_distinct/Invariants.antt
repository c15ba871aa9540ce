use Rattle.std.proofs.Common.{length}
use Rattle.bus_rules.proofs.rule.+are_all_distinct.Given as goal

abbrev pub decreases-are_all_distinct : goal.decreases-are_all_distinct
decreases-are_all_distinct l = length l.pairs.now
