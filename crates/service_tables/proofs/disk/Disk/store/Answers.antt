use Rattle.std.proofs.Common.{◌≡◌, Some, refl, sym, ap, ◌∙◌}
use Rattle.kr_base.specs.Attributes.{value_at}
use Rattle.collection_table.specs.Entries.{changed, rows_of, slots_of}
use Rattle.collection_table.specs.Rows.{Rows}
use Rattle.collection_table.proofs.RowLemmas.{slots-changed}
use Rattle.service_tables.specs.Disk.{contents_in, disk_state}
use Rattle.service_tables.specs.Storing.{row_changed}
use Rattle.service_tables.specs.declared.fate.Fate.TheVariants.{Store}
use Rattle.service_tables.proofs.DiskLemmas.{at-changed, changed-back, rows-become, slots-ordered}
use Rattle.service_tables.proofs.SlotLemmas.{answered-missing, answered-possible, map-err, map-none, map-some, storable-fits, storable-large}
use Rattle.service_tables.proofs.disk.Disk.store.Goals as goal

-- a collection that answers is there, and is unlocked
pub unreachable-requires : goal.unreachable-requires
unreachable-requires g c = answered-missing c.args.stem.now c.args.change c.args.now c.args.self.now.collections.entries (sym c.in_default.ensures.value) c.requires

pub store_in-requires-clause-open : goal.store_in-requires-clause-open
store_in-requires-clause-open g c =
    (answered-possible c.args.stem.now c.args.change c.args.now c.args.self.now.collections.entries c.in-Some.collection.now (sym c.in-Some.ensures.value) c.requires).0

pub store_in-requires-clause-possible : goal.store_in-requires-clause-possible
store_in-requires-clause-possible g c =
    (answered-possible c.args.stem.now c.args.change c.args.now c.args.self.now.collections.entries c.in-Some.collection.now (sym c.in-Some.ensures.value) c.requires).1

-- its row and its slot are those of what the collection became
pub returns-clause-stored : goal.returns-clause-stored
returns-clause-stored g c =
    let old = contents_in c.args.self.now in
    map-some c.store_in.result _ _
    (λ fate row. ap (λ (rows : Rows). record old { collections = rows })
    (rows-become c.args.stem.now (row_changed c.args.change c.args.now fate) c.args.self.now.collections.entries c.in-Some.collection.now c.store_in.new.collection c.entries-ordered.ensures.ordered
    (sym c.in-Some.ensures.value) row))
    c.store_in.ensures.row

pub returns-clause-disk : goal.returns-clause-disk
returns-clause-disk g c =
    let entries = c.args.self.now.collections.entries in
    let old = disk_state c.args.self.now in
    let is = c.store_in.new.collection in
    map-some c.store_in.result _ _
    (λ some stores. at-changed c.args.stem.now _ _ _ _ _ _ (Store some) entries c.in-Some.collection.now is old _ (slots-ordered entries c.entries-ordered.ensures.ordered) (sym c.in-Some.ensures.value) refl
    (ap (λ slots. record old { slots = slots }) (slots-changed c.args.stem.now is entries)) stores _ refl)
    c.store_in.ensures.slot

-- what is stored is what was answered
pub returns-clause-fits : goal.returns-clause-fits
returns-clause-fits g c =
    let entries = c.args.self.now.collections.entries in
    let was = c.in-Some.collection.now in
    let there : value_at c.args.stem.now entries ≡ Some was = sym c.in-Some.ensures.value in
    map-some c.store_in.result _ _
    (λ fate fits. storable-fits c.args.stem.now c.args.change c.args.now entries was there c.room-room.result c.room-room.ensures
    (answered-possible c.args.stem.now c.args.change c.args.now entries was there c.requires).0 fits)
    c.store_in.ensures.fits

pub returns-clause-measured : goal.returns-clause-measured
returns-clause-measured g c =
    let entries = c.args.self.now.collections.entries in
    let was = c.in-Some.collection.now in
    let there : value_at c.args.stem.now entries ≡ Some was = sym c.in-Some.ensures.value in
    map-none c.store_in.result _ _
    (λ large. storable-large c.args.stem.now c.args.change c.args.now entries was there c.room-room.result c.room-room.ensures
    (answered-possible c.args.stem.now c.args.change c.args.now entries was there c.requires).0 large)
    c.store_in.ensures.measured

-- a collection that is as before leaves all as before
pub returns-clause-unasked : goal.returns-clause-unasked
returns-clause-unasked g c =
    let entries = c.args.self.now.collections.entries in
    let was = c.in-Some.collection.now in
    let back = changed-back c.args.stem.now was entries c.entries-ordered.ensures.ordered (sym c.in-Some.ensures.value) in
    map-none c.store_in.result _ _
    (λ same.
    let all : changed c.args.stem.now (λ _. c.store_in.new.collection) entries ≡ entries = ap (λ v. changed c.args.stem.now (λ _. v) entries) same ∙ back in
    (ap (λ these. record (contents_in c.args.self.now) { collections = rows_of these }) all, ap (λ these. record (disk_state c.args.self.now) { slots = slots_of these }) all))
    c.store_in.ensures.unasked

pub returns-clause-unchanged : goal.returns-clause-unchanged
returns-clause-unchanged g c =
    let entries = c.args.self.now.collections.entries in
    let was = c.in-Some.collection.now in
    let back = changed-back c.args.stem.now was entries c.entries-ordered.ensures.ordered (sym c.in-Some.ensures.value) in
    map-err c.store_in.result _ _
    (λ same.
    let all : changed c.args.stem.now (λ _. c.store_in.new.collection) entries ≡ entries = ap (λ v. changed c.args.stem.now (λ _. v) entries) same ∙ back in
    (ap (λ these. record (contents_in c.args.self.now) { collections = rows_of these }) all, ap (λ these. record (disk_state c.args.self.now) { slots = slots_of these }) all))
    c.store_in.ensures.unchanged
