use Rattle.tests_items.proofs.DistinctLemmas.{distinct-three}
use Rattle.tests_items.proofs.items.three_loaded.Goals as goal

pub loaded-requires : goal.loaded-requires
loaded-requires c = record { distinct = distinct-three _ c.in_ok-rows.ensures }
