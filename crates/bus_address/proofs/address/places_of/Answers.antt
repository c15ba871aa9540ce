use Rattle.bus_address.proofs.EntryLemmas.{part_first, places_more}
use Rattle.bus_address.proofs.address.places_of.Goals as goal

pub add-requires : goal.add-requires
add-requires c = (part_first c.loop-entry.rest.now c.in-Some.entry.now c.in-Some.more.now c.in-Some.ensures c.loop-entry.invariant.form).0

pub loop-entry-preserved : goal.loop-entry-preserved
loop-entry-preserved c = record {
  form = (part_first c.loop-entry.rest.now c.in-Some.entry.now c.in-Some.more.now c.in-Some.ensures c.loop-entry.invariant.form).1;
  so_far = places_more c.loop-entry.rest.now c.in-Some.entry.now c.in-Some.more.now _ _ _ c.in-Some.ensures c.in_ok-add.ensures c.loop-entry.invariant.so_far;
}
