use Rattle.std.proofs.Common.{◌≡◌, Some, refl, sym, ap, ◌∙◌}
use Rattle.kr_base.specs.Attributes.{value_at}
use Rattle.service_tables.specs.collection_table.specs.Entries.{changed, rows_of, slots_of}
use Rattle.service_tables.specs.collection_table.specs.Rows.{Rows}
use Rattle.service_tables.specs.collection_table.proofs.RowLemmas.{slots-changed}
use Rattle.service_tables.specs.Disk.{contents_in, disk_state}
use Rattle.service_tables.specs.declared.fate.Fate.TheVariants.{Store}
use Rattle.service_tables.proofs.DiskLemmas.{at-changed, changed-back, rows-become, slots-ordered}
use Rattle.service_tables.proofs.SlotLemmas.{map-err, map-none, map-some}
use Rattle.service_disk.specs.Rekeying.{row_rekeyed}
use Rattle.service_disk.proofs.RekeyingLemmas.{can-missing, can-there}
use Rattle.service_disk.proofs.rekeying.rekey.Goals as goal

-- there is no such collection
pub returns-in_default-clause-measured : goal.returns-in_default-clause-measured
returns-in_default-clause-measured g c = can-missing c.args.key c.args.now c.args.stem.now c.args.disk.now.collections.entries c.in_default.ensures.value

-- its row and its slot are those of what the collection became
pub returns-clause-stored : goal.returns-clause-stored
returns-clause-stored g c =
    let old = contents_in c.args.disk.now in
    map-some c.rekey_in.result _ _
    (λ fate row. ap (λ (rows : Rows). record old { collections = rows })
    (rows-become c.args.stem.now (row_rekeyed c.args.key c.args.now fate) c.args.disk.now.collections.entries c.in-Some.collection.now c.rekey_in.new.collection c.entries-ordered.ensures.ordered
    (sym c.in-Some.ensures.value) row))
    c.rekey_in.ensures.row

pub returns-clause-disk : goal.returns-clause-disk
returns-clause-disk g c =
    let entries = c.args.disk.now.collections.entries in
    let old = disk_state c.args.disk.now in
    let is = c.rekey_in.new.collection in
    map-some c.rekey_in.result _ _
    (λ some stores. at-changed c.args.stem.now _ _ _ _ _ _ (Store some) entries c.in-Some.collection.now is old _ (slots-ordered entries c.entries-ordered.ensures.ordered) (sym c.in-Some.ensures.value) refl
    (ap (λ slots. record old { slots = slots }) (slots-changed c.args.stem.now is entries)) stores _ refl)
    c.rekey_in.ensures.slot

-- whether it could be stored
pub returns-clause-fits : goal.returns-clause-fits
returns-clause-fits g c =
    map-some c.rekey_in.result _ _
    (λ fate fits. can-there c.args.key c.args.now c.args.stem.now c.args.disk.now.collections.entries c.in-Some.collection.now c.room-room.result _ (sym c.in-Some.ensures.value) c.room-room.ensures fits)
    c.rekey_in.ensures.fits

pub returns-clause-measured : goal.returns-clause-measured
returns-clause-measured g c =
    map-none c.rekey_in.result _ _
    (λ large. can-there c.args.key c.args.now c.args.stem.now c.args.disk.now.collections.entries c.in-Some.collection.now c.room-room.result _ (sym c.in-Some.ensures.value) c.room-room.ensures large)
    c.rekey_in.ensures.measured

-- a collection that is as before leaves all as before
pub returns-clause-unasked : goal.returns-clause-unasked
returns-clause-unasked g c =
    let entries = c.args.disk.now.collections.entries in
    let was = c.in-Some.collection.now in
    let back = changed-back c.args.stem.now was entries c.entries-ordered.ensures.ordered (sym c.in-Some.ensures.value) in
    map-none c.rekey_in.result _ _
    (λ same.
    let all : changed c.args.stem.now (λ _. c.rekey_in.new.collection) entries ≡ entries = ap (λ v. changed c.args.stem.now (λ _. v) entries) same ∙ back in
    (ap (λ these. record (contents_in c.args.disk.now) { collections = rows_of these }) all, ap (λ these. record (disk_state c.args.disk.now) { slots = slots_of these }) all))
    c.rekey_in.ensures.unasked

pub returns-clause-unchanged : goal.returns-clause-unchanged
returns-clause-unchanged g c =
    let entries = c.args.disk.now.collections.entries in
    let was = c.in-Some.collection.now in
    let back = changed-back c.args.stem.now was entries c.entries-ordered.ensures.ordered (sym c.in-Some.ensures.value) in
    map-err c.rekey_in.result _ _
    (λ same.
    let all : changed c.args.stem.now (λ _. c.rekey_in.new.collection) entries ≡ entries = ap (λ v. changed c.args.stem.now (λ _. v) entries) same ∙ back in
    (ap (λ these. record (contents_in c.args.disk.now) { collections = rows_of these }) all, ap (λ these. record (disk_state c.args.disk.now) { slots = slots_of these }) all))
    c.rekey_in.ensures.unchanged
