use Rattle.tests_items.proofs.DistinctLemmas.{distinct-one}
use Rattle.tests_items.proofs.items.last_loaded.Goals as goal

pub loaded-requires : goal.loaded-requires
loaded-requires c = record { distinct = distinct-one _ 4294967295 c.in_ok-rows.ensures }
