use Rattle.std.proofs.Common.{refl}
use Rattle.collection_table.specs.Entries.{closed}
use Rattle.collection_table.proofs.EntryLemmas.{set_read, unchanged_none}
use Rattle.collection_table.proofs.entries.lock.Goals as goal

pub returns-in-Some : goal.returns-in-Some
returns-in-Some g c =
    let there = rw c.as_slice.ensures.value at c.in-Some.ensures.found in
    record {
      entries = set_read c.args.stem.now closed c.args.entries.now.items c.in-Some.place c.index_mut.result.now c.lock.new.self c.requires there c.index_mut.ensures.value c.lock.ensures;
      room = refl;
    }

pub returns-in-None : goal.returns-in-None
returns-in-None g c =
    let none = rw c.as_slice.ensures.value at c.in-None.ensures.none in
    record { entries = unchanged_none c.args.stem.now closed c.args.entries.now.items none; room = refl }
