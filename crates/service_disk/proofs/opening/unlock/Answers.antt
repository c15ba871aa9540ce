use Rattle.std.proofs.Common.{◌≡◌, Some, IfOk, sym, ap, subst, ◌∙◌}
use Rattle.std.specs.Option.{option_map}
use Rattle.kr_base.specs.Attributes.{value_at}
use Rattle.service_tables.specs.collection_store.specs.State.{CollectionState}
use Rattle.service_tables.specs.collection_table.specs.Entries.{changed, rows_of, slots_of}
use Rattle.service_tables.specs.collection_table.specs.Rows.{Rows}
use Rattle.service_tables.specs.collection_table.proofs.RowLemmas.{slots-changed}
use Rattle.service_tables.specs.Disk.{contents_in, disk_state}
use Rattle.service_tables.proofs.DiskLemmas.{changed-back, rows-become, slots-ordered, value-slots}
use Rattle.service_disk.specs.Opening.{row_opened}
use Rattle.service_disk.proofs.OpeningLemmas.{on-err, on-ok, opening-missing, opening-there, rows-missing}
use Rattle.service_disk.proofs.opening.unlock.Goals as goal

-- there is no such collection
pub returns-in_default-clause-opening : goal.returns-in_default-clause-opening
returns-in_default-clause-opening g c = opening-missing c.args.key c.args.stem.now c.args.disk.now.collections.entries c.in_default.ensures.value

pub returns-in_default-clause-opened : goal.returns-in_default-clause-opened
returns-in_default-clause-opened g c =
    ap (λ (rows : Rows). record (contents_in c.args.disk.now) { collections = rows }) (rows-missing c.args.key c.args.stem.now c.args.disk.now.collections.entries c.in_default.ensures.value)

-- its row is that of what the collection became
pub returns-clause-opening : goal.returns-clause-opening
returns-clause-opening g c =
    subst (λ how. IfOk c.unlock_in.result (λ opening. opening ≡ how))
    (sym (opening-there c.args.key c.args.stem.now c.args.disk.now.collections.entries c.in-Some.collection.now c.in-Some.ensures.value)) c.unlock_in.ensures.opening

pub returns-clause-opened : goal.returns-clause-opened
returns-clause-opened g c =
    let entries = c.args.disk.now.collections.entries in
    let there : value_at c.args.stem.now entries ≡ Some c.in-Some.collection.now = sym c.in-Some.ensures.value in
    on-ok c.unlock_in.result _ _
    (λ row. ap (λ (rows : Rows). record (contents_in c.args.disk.now) { collections = rows })
    (rows-become c.args.stem.now (row_opened c.args.key) entries c.in-Some.collection.now c.unlock_in.new.collection c.entries-ordered.ensures.ordered there row))
    c.unlock_in.ensures.row

-- its slot is as before
pub returns-clause-disk : goal.returns-clause-disk
returns-clause-disk g c =
    let entries = c.args.disk.now.collections.entries in
    let was = c.in-Some.collection.now in
    let there : value_at c.args.stem.now entries ≡ Some was = sym c.in-Some.ensures.value in
    ap (λ slots. record (disk_state c.args.disk.now) { slots = slots })
    (slots-changed c.args.stem.now c.unlock_in.new.collection entries
    ∙ ap (λ slot. changed c.args.stem.now (λ _. slot) (slots_of entries)) c.unlock_in.ensures.slot
    ∙ changed-back c.args.stem.now was.slot (slots_of entries) (slots-ordered entries c.entries-ordered.ensures.ordered)
    (value-slots c.args.stem.now entries ∙ ap (option_map (λ (v : CollectionState _). v.slot)) there))

-- a collection that is as before leaves all as before
pub returns-clause-unchanged : goal.returns-clause-unchanged
returns-clause-unchanged g c =
    let entries = c.args.disk.now.collections.entries in
    let was = c.in-Some.collection.now in
    let back = changed-back c.args.stem.now was entries c.entries-ordered.ensures.ordered (sym c.in-Some.ensures.value) in
    on-err c.unlock_in.result _ _
    (λ same.
    let all : changed c.args.stem.now (λ _. c.unlock_in.new.collection) entries ≡ entries = ap (λ v. changed c.args.stem.now (λ _. v) entries) same ∙ back in
    ap (λ these. record (contents_in c.args.disk.now) { collections = rows_of these }) all)
    c.unlock_in.ensures.unchanged
