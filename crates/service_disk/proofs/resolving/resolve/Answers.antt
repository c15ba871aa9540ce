use Rattle.std.proofs.Common.{◌≡◌, Some, true, false, refl, sym, ap, ◌∙◌}
use Rattle.std.specs.Option.{option_map}
use Rattle.kr_base.specs.Attributes.{value_at}
use Rattle.service_tables.specs.collection_store.specs.State.{CollectionState}
use Rattle.service_tables.specs.collection_table.specs.Entries.{changed, row_of, rows_of, slots_of}
use Rattle.service_tables.specs.collection_table.specs.Rows.{CollectionRow, Rows}
use Rattle.service_tables.specs.collection_table.proofs.RowLemmas.{slots-changed}
use Rattle.service_tables.specs.Disk.{contents_in, disk_state}
use Rattle.service_tables.specs.Opened.{Contents}
use Rattle.service_tables.specs.declared.fate.Fate.TheVariants.{Read}
use Rattle.service_tables.proofs.DiskLemmas.{at-changed, at-erased, changed-here, file-there, rows-become, rows-left, slots-left, slots-ordered, value-slots, without-here}
use Rattle.service_tables.proofs.SlotLemmas.{of-some}
use Rattle.service_disk.specs.Resolving.{row_resolved, stays}
use Rattle.service_disk.proofs.ResolvingLemmas.{doubt-missing, doubt-there, doubt-unknown, gone-stores, resolved-goes, resolved-stays}
use Rattle.service_disk.proofs.resolving.resolve.Goals as goal

-- a collection in doubt is there
pub unreachable-requires : goal.unreachable-requires
unreachable-requires g c = let no : false ≡ true = doubt-missing c.args.stem c.args.disk.now.collections.entries c.in_default.ensures.value ∙ c.requires.doubt in cc

pub resolve_in-requires-clause-doubt : goal.resolve_in-requires-clause-doubt
resolve_in-requires-clause-doubt g c =
    doubt-unknown c.in-Some.collection.now.file (doubt-there c.args.stem c.args.disk.now.collections.entries c.in-Some.collection.now c.in-Some.ensures.value ∙ c.requires.doubt)

pub resolve_in-requires-clause-room : goal.resolve_in-requires-clause-room
resolve_in-requires-clause-room g c =
    rw (← file-there c.args.stem c.args.disk.now.collections.entries c.in-Some.collection.now (sym c.in-Some.ensures.value)) c.requires.buffer

-- the collection is still there
pub returns-in-Stays-clause-resolved : goal.returns-in-Stays-clause-resolved
returns-in-Stays-clause-resolved g c =
    let entries = c.args.disk.now.collections.entries in
    let was = c.in-Some.collection.now in
    let there : value_at c.args.stem entries ≡ Some was = sym c.in-Some.ensures.value in
    ap (λ (rows : Rows). record (contents_in c.args.disk.now) { collections = rows })
    (rows-become c.args.stem (row_resolved c.in-Stays.fate) entries was c.resolve_in.new.collection c.entries-ordered.ensures.ordered there c.in-Stays.ensures.row
    ∙ sym (resolved-stays c.args.stem c.in-Stays.fate (rows_of entries) (ap (stays c.in-Stays.fate) (file-there c.args.stem entries was there) ∙ sym c.in-Stays.ensures.stays)))

pub returns-in-Stays-clause-disk : goal.returns-in-Stays-clause-disk
returns-in-Stays-clause-disk g c =
    let entries = c.args.disk.now.collections.entries in
    let old = disk_state c.args.disk.now in
    let is = c.resolve_in.new.collection in
    at-changed c.args.stem _ _ _ _ _ _ (Read c.in-Stays.fate) entries c.in-Some.collection.now is old _ (slots-ordered entries c.entries-ordered.ensures.ordered) (sym c.in-Some.ensures.value) refl
    (ap (λ slots. record old { slots = slots }) (slots-changed c.args.stem is entries)) c.in-Stays.ensures.slot _ refl

-- a crash leaves no file of one that goes
pub put_aside-requires-clause-gone : goal.put_aside-requires-clause-gone
put_aside-requires-clause-gone g c =
    let slot_is = g.F.Cell.Slot in
    let entries = c.args.disk.now.collections.entries in
    let was = c.in-Some.collection.now in
    let is = c.resolve_in.new.collection in
    let there : value_at c.args.stem entries ≡ Some was = sym c.in-Some.ensures.value in
    let slot : value_at c.args.stem (slots_of (changed c.args.stem (λ _. is) entries)) ≡ Some is.slot =
    value-slots c.args.stem (changed c.args.stem (λ _. is) entries) ∙ ap (option_map (λ (v : CollectionState _). v.slot)) (changed-here c.args.stem is entries ∙ ap (option_map (λ _. is)) there) in
    let stores = gone-stores slot_is.is_honest slot_is.is_steady slot_is.faults slot_is.moment slot_is.left_since slot_is.may_leave c.in-Goes.fate was.file is.file (row_of was) was.slot is.slot
    refl (ap (λ (row : CollectionRow). row.file) c.in-Goes.ensures.row) (sym c.in-Goes.ensures.stays) c.in-Goes.ensures.slot in
    rw slot stores.crash

-- it goes, and its slot is put aside
pub returns-in-Goes-clause-resolved : goal.returns-in-Goes-clause-resolved
returns-in-Goes-clause-resolved g c =
    let entries = c.args.disk.now.collections.entries in
    let was = c.in-Some.collection.now in
    let there : value_at c.args.stem entries ≡ Some was = sym c.in-Some.ensures.value in
    c.put_aside.ensures.contents
    ∙ ap (λ (rows : Rows). record (contents_in c.args.disk.now) { collections = rows })
    (rows-left c.args.stem entries c.resolve_in.new.collection
    ∙ sym (resolved-goes c.args.stem c.in-Goes.fate (rows_of entries) (ap (stays c.in-Goes.fate) (file-there c.args.stem entries was there) ∙ sym c.in-Goes.ensures.stays)))

pub returns-in-Goes-clause-disk : goal.returns-in-Goes-clause-disk
returns-in-Goes-clause-disk g c =
    let slot_is = g.F.Cell.Slot in
    let entries = c.args.disk.now.collections.entries in
    let was = c.in-Some.collection.now in
    let is = c.resolve_in.new.collection in
    let there : value_at c.args.stem entries ≡ Some was = sym c.in-Some.ensures.value in
    let slot : value_at c.args.stem (slots_of (changed c.args.stem (λ _. is) entries)) ≡ Some is.slot =
    value-slots c.args.stem (changed c.args.stem (λ _. is) entries) ∙ ap (option_map (λ (v : CollectionState _). v.slot)) (changed-here c.args.stem is entries ∙ ap (option_map (λ _. is)) there) in
    at-erased c.args.stem _ _ _ _ _ _ (Read c.in-Goes.fate) entries was is (disk_state c.args.disk.now) (disk_state c.put_aside.new.self) (slots-ordered entries c.entries-ordered.ensures.ordered) there refl
    (c.put_aside.ensures.slots ∙ slots-left c.args.stem entries is)
    (of-some _ _ is.slot slot c.put_aside.ensures.spare)
    c.put_aside.ensures.rest
    (gone-stores slot_is.is_honest slot_is.is_steady slot_is.faults slot_is.moment slot_is.left_since slot_is.may_leave c.in-Goes.fate was.file is.file (row_of was) was.slot is.slot
    refl (ap (λ (row : CollectionRow). row.file) c.in-Goes.ensures.row) (sym c.in-Goes.ensures.stays) c.in-Goes.ensures.slot)
    _ (ap (λ (contents : Contents). value_at c.args.stem contents.collections) c.put_aside.ensures.contents ∙ without-here c.args.stem (rows_of (changed c.args.stem (λ _. is) entries)))
