use Rattle.std.proofs.Common.{ap, ◌∙◌}
use Rattle.service_tables.specs.collection_store.specs.State.{CollectionState}
use Rattle.service_tables.specs.collection_table.specs.Entries.{slots_of}
use Rattle.service_tables.specs.Disk.{disk_state}
use Rattle.stem_choice.specs.UsedStems.{with_stem}
use Rattle.service_disk.proofs.InsertedLemmas.{values-inserted}
use Rattle.service_disk.proofs.taking.list.Goals as goal

pub returns-clause-disk : goal.returns-clause-disk
returns-clause-disk g c =
    let slots = ap slots_of c.insert-2.ensures.entries ∙ values-inserted (λ (v : CollectionState _). v.slot) c.args.stem c.args.collection c.args.disk.now.collections.entries in
    let used = c.insert.ensures.stems ∙ ap (λ s. with_stem s c.args.disk.now.used.stems) c.requires.same in
    (λ i. record (disk_state c.args.disk.now) { slots = slots i; used = used i })

pub returns-clause-unused : goal.returns-clause-unused
returns-clause-unused g c = λ other off. c.others_were_unused.ensures c.args.stem other c.args.disk.now.used.stems off
