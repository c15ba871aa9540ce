use Rattle.std.proofs.Common.{◌≡◌, Some, true, false, IsTrue, refl, sym, ap, subst, ◌∙◌, rules}
use Rattle.std.specs.Option.{option_map}
use Rattle.kr_base.specs.Attributes.{value_at}
use Rattle.replace_slot.specs.Cell.{LeavesFile}
use Rattle.collection_store.specs.State.{CollectionState}
use Rattle.collection_table.specs.Entries.{changed, rows_of, slots_of}
use Rattle.collection_table.specs.Rows.{CollectionRow, Rows, perhaps_removed}
use Rattle.collection_table.proofs.RowLemmas.{open-missing, open-there, slots-changed}
use Rattle.service_tables.specs.Disk.{contents_in, disk_state}
use Rattle.service_tables.specs.Opened.{Contents}
use Rattle.service_tables.specs.Slots.{StoresIn}
use Rattle.service_tables.specs.declared.fate.Fate.TheVariants.{Store}
use Rattle.service_tables.specs.declared.fate.StoreFate.TheVariants as fate
use Rattle.service_tables.proofs.DiskLemmas.{at-changed, at-erased, changed-here, rows-become, rows-left, slots-left, slots-ordered, value-slots, without-here}
use Rattle.service_tables.proofs.SlotLemmas.{of-some, some-is}
use Rattle.service_tables.proofs.disk.Disk.erase.Goals as goal

-- an unlocked collection is there
pub unreachable-requires : goal.unreachable-requires
unreachable-requires g c = let wrong : false ≡ true = open-missing c.args.stem c.args.self.now.collections.entries c.in_default.ensures.value ∙ c.requires.open in cc

pub erase_in-requires : goal.erase_in-requires
erase_in-requires g c = some-is c.in-Some.collection.now.held (open-there c.args.stem c.args.self.now.collections.entries c.in-Some.collection.now c.in-Some.ensures.value ∙ c.requires.open)

-- the file was removed: a crash leaves none
pub put_aside-requires-clause-gone : goal.put_aside-requires-clause-gone
put_aside-requires-clause-gone g c =
    let slot_is = g.F.Cell.Slot in
    let entries = c.args.self.now.collections.entries in
    let is = c.erase_in.new.collection in
    let there : value_at c.args.stem entries ≡ Some c.in-Some.collection.now = sym c.in-Some.ensures.value in
    let slot : value_at c.args.stem (slots_of (changed c.args.stem (λ _. is) entries)) ≡ Some is.slot =
    value-slots c.args.stem (changed c.args.stem (λ _. is) entries) ∙ ap (option_map (λ (v : CollectionState _). v.slot)) (changed-here c.args.stem is entries ∙ ap (option_map (λ _. is)) there) in
    rw slot
    (subst (λ file. IsTrue (slot_is.is_honest is.slot) → LeavesFile file (slot_is.may_leave is.slot)) (ap (λ (row : CollectionRow). row.file) c.if-erase_in.ensures.row) c.if-erase_in.ensures.slot.crash)

-- the collection goes, and its slot is put aside
pub returns-then-erase_in-clause-erased : goal.returns-then-erase_in-clause-erased
returns-then-erase_in-clause-erased g c =
    c.put_aside.ensures.contents
    ∙ ap (λ (rows : Rows). record (contents_in c.args.self.now) { collections = rows }) (rows-left c.args.stem c.args.self.now.collections.entries c.erase_in.new.collection)

-- it isn't known whether it was: the collection is locked, and in doubt
pub returns-clause-erased : goal.returns-clause-erased
returns-clause-erased g c =
    ap (λ (rows : Rows). record (contents_in c.args.self.now) { collections = rows })
    (rows-become c.args.stem perhaps_removed c.args.self.now.collections.entries c.in-Some.collection.now c.erase_in.new.collection c.entries-ordered.ensures.ordered (sym c.in-Some.ensures.value) (search rules))

pub returns-clause-disk : goal.returns-clause-disk
returns-clause-disk g c =
    let entries = c.args.self.now.collections.entries in
    let old = disk_state c.args.self.now in
    let is = c.erase_in.new.collection in
    at-changed c.args.stem _ _ _ _ _ _ (Store fate.Unsure) entries c.in-Some.collection.now is old _ (slots-ordered entries c.entries-ordered.ensures.ordered) (sym c.in-Some.ensures.value) refl
    (ap (λ slots. record old { slots = slots }) (slots-changed c.args.stem is entries)) c.if-erase_in.ensures.slot _ refl

pub returns-then-erase_in-clause-disk : goal.returns-then-erase_in-clause-disk
returns-then-erase_in-clause-disk g c =
    let slot_is = g.F.Cell.Slot in
    let entries = c.args.self.now.collections.entries in
    let was = c.in-Some.collection.now in
    let is = c.erase_in.new.collection in
    let there : value_at c.args.stem entries ≡ Some was = sym c.in-Some.ensures.value in
    let slot : value_at c.args.stem (slots_of (changed c.args.stem (λ _. is) entries)) ≡ Some is.slot =
    value-slots c.args.stem (changed c.args.stem (λ _. is) entries) ∙ ap (option_map (λ (v : CollectionState _). v.slot)) (changed-here c.args.stem is entries ∙ ap (option_map (λ _. is)) there) in
    at-erased c.args.stem _ _ _ _ _ _ (Store fate.Stored) entries was is (disk_state c.args.self.now) (disk_state c.put_aside.new.self) (slots-ordered entries c.entries-ordered.ensures.ordered) there refl
    (c.put_aside.ensures.slots ∙ slots-left c.args.stem entries is)
    (of-some _ _ is.slot slot c.put_aside.ensures.spare)
    c.put_aside.ensures.rest
    (subst (λ file. StoresIn slot_is.is_honest slot_is.is_steady slot_is.faults slot_is.moment slot_is.left_since slot_is.may_leave (Store fate.Stored) was.file file was.slot is.slot) (ap (λ (row : CollectionRow). row.file) c.if-erase_in.ensures.row) c.if-erase_in.ensures.slot)
    _ (ap (λ (contents : Contents). value_at c.args.stem contents.collections) c.put_aside.ensures.contents ∙ without-here c.args.stem (rows_of (changed c.args.stem (λ _. is) entries)))
