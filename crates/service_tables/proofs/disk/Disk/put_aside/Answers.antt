use Rattle.std.proofs.Common.{rules, sym, ap, ◌∙◌}
use Rattle.std.specs.Option.{option_map}
use Rattle.collection_store.specs.State.{CollectionState}
use Rattle.collection_table.specs.Entries.{slots_of}
use Rattle.collection_table.proofs.EntryLemmas.{others_none}
use Rattle.service_tables.specs.Disk.{disk_state}
use Rattle.service_tables.proofs.DiskLemmas.{value-slots}
use Rattle.service_tables.proofs.SlotLemmas.{of-some}
use Rattle.service_tables.proofs.disk.Disk.put_aside.Goals as goal

-- it is the slot of the collection that is kept
pub new-kept-requires : goal.new-kept-requires
new-kept-requires g c =
    rw (c.into_slot.ensures.slot ∙ c.into_cell.ensures.slot)
    (of-some _ _ c.in-Some.collection.slot
    (value-slots c.args.stem c.args.self.now.collections.entries ∙ ap (option_map (λ (collection : CollectionState _). collection.slot)) (sym c.in-Some.ensures.value))
    c.requires.gone)

-- the slot of the collection is the first of those that are put aside
pub returns-in-Some-clause-spare : goal.returns-in-Some-clause-spare
returns-in-Some-clause-spare g c =
    rw (value-slots c.args.stem c.args.self.now.collections.entries ∙ ap (option_map (λ (collection : CollectionState _). collection.slot)) (sym c.in-Some.ensures.value))
    (search rules)

pub returns-in_default-clause-spare : goal.returns-in_default-clause-spare
returns-in_default-clause-spare g c =
    rw (value-slots c.args.stem c.args.self.now.collections.entries ∙ ap (option_map (λ (collection : CollectionState _). collection.slot)) (sym c.in_default.ensures.value)) tt

-- without a collection all is as before
pub returns-in-Some-clause-missing : goal.returns-in-Some-clause-missing
returns-in-Some-clause-missing g c =
    rw (value-slots c.args.stem c.args.self.now.collections.entries ∙ ap (option_map (λ (collection : CollectionState _). collection.slot)) (sym c.in-Some.ensures.value)) tt

pub returns-in_default-clause-missing : goal.returns-in_default-clause-missing
returns-in_default-clause-missing g c =
    let entries = c.args.self.now.collections.entries in
    let none = value-slots c.args.stem entries ∙ ap (option_map (λ (collection : CollectionState _). collection.slot)) (sym c.in_default.ensures.value) in
    rw none (ap (λ slots. record (disk_state c.args.self.now) { slots = slots }) (c.in_default.ensures.slots ∙ sym (others_none c.args.stem (slots_of entries) none)))
