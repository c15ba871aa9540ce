use Rattle.std.proofs.Common.{subst}
use Rattle.std.specs.List.{AllByRecursion}
use Rattle.keyring_file.specs.Known.{IsKnownPair}
use Rattle.keyring_file.proofs.KnownLemmas.{all_more, all_of_taken}
use Rattle.service_tables.proofs.known.known_pairs.Goals as goal

pub loop-pair-preserved : goal.loop-pair-preserved
loop-pair-preserved c = all_more IsKnownPair c.as_slice-pair-items.result.now c.loop-pair.pair-index c.pair-item.result c.loop-pair-test.true c.pair-item.is c.loop-pair.invariant c.known_pair.ensures

pub returns-clause-each : goal.returns-clause-each
returns-clause-each c = subst (λ pairs. AllByRecursion IsKnownPair pairs) c.as_slice-pair-items.ensures.value (all_of_taken IsKnownPair c.as_slice-pair-items.result.now c.loop-pair.pair-index c.loop-pair-test.false c.loop-pair.invariant)
