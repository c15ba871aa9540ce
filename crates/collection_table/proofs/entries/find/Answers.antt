use Rattle.collection_table.proofs.EntryLemmas.{found_read}
use Rattle.collection_table.proofs.entries.find.Goals as goal

pub returns-in-Some : goal.returns-in-Some
returns-in-Some g c = found_read c.args.entries.now c.args.stem.now c.in-Some.place c.index-entries-place.result c.requires c.in-Some.ensures.found
