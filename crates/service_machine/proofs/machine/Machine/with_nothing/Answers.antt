use Rattle.std.proofs.Common.{map, ap, ◌∙◌}
use Rattle.service_answers.specs.collection_table.specs.Entries.{loaded_from, slots_of}
use Rattle.service_machine.proofs.NothingLemmas.{free-nothing, none-in-order}
use Rattle.service_machine.proofs.machine.Machine.with_nothing.Goals as goal

-- no collection is out of order
pub loaded-requires : goal.loaded-requires
loaded-requires g c = rw c.new.ensures.items none-in-order

-- a collection can be made under each stem
pub returns-clause-free : goal.returns-clause-free
returns-clause-free g c =
    free-nothing g.F.Folder.is_honest g.F.Folder.images g.F.Folder.may_leave g.F.Folder.made g.F.Cell.Slot.is_honest g.F.Cell.Slot.may_leave _ c.requires.silent c.requires.fresh
    (ap slots_of (c.in_ok-collections.ensures ∙ ap (map loaded_from) c.new.ensures.items)) c.new-5.ensures.items
