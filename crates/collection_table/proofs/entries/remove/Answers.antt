use Rattle.collection_table.proofs.EntryLemmas.{others_none, remove_at, removed_read}
use Rattle.collection_table.proofs.entries.remove.Goals as goal

pub returns-in-Some-clause-value : goal.returns-in-Some-clause-value
returns-in-Some-clause-value g c =
    let there = rw c.as_slice.ensures.value at c.in-Some.ensures.found in
    removed_read c.args.stem.now c.args.entries.now.items c.in-Some.place c.remove.result c.requires there c.remove.ensures.value

pub returns-in-Some-clause-entries : goal.returns-in-Some-clause-entries
returns-in-Some-clause-entries g c =
    let there = rw c.as_slice.ensures.value at c.in-Some.ensures.found in
    rw c.remove.ensures.items (remove_at c.args.stem.now c.args.entries.now.items c.in-Some.place there.value c.requires there.at)

pub returns-in-None-clause-entries : goal.returns-in-None-clause-entries
returns-in-None-clause-entries g c =
    let none = rw c.as_slice.ensures.value at c.in-None.ensures.none in
    others_none c.args.stem.now c.args.entries.now.items none
