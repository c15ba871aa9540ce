-- The collections of a service with their slots, each with its stem, and the rows that they stand for.
use Rattle.std.specs.Prelude.{◌≡◌, ℕ, zero, suc, List, [], ◌∷◌, ◌++◌, filter, map, not, Some, None, if◌then◌else◌}
use Rattle.std.specs.Cmp.Lexicographic.{slice_cmp}
use Rattle.std.specs.List.{slice_get}
use Rattle.std.specs.Ordering.{is_lt, nat_cmp}
use Rattle.kr_base.specs.Attributes.{is_name}
use Rattle.collection_store.specs.State.{CollectionState, by_id}
use Rattle.folder_store.specs.Ring.{RingState}
use Rattle.collection_table.specs.Rows.{CollectionRow, Rows}

-- each collection with its stem
abbrev pub Entries : Type 0 → Type 0
Entries S = List (List ℕ × CollectionState S)

-- the table as contracts see it: the collections, and how many more can be put in without taking memory
pub record TableState (S : Type 0) : Type 0 where
  pub entries : Entries S
  pub room : ℕ

-- a collection without its slot
abbrev pub row_of : {S : Type 0} → CollectionState S → CollectionRow
row_of collection = record { file = collection.file; clear = collection.clear; other = collection.other; held = collection.held }

-- the collections without their slots
abbrev pub rows_of : {S : Type 0} → Entries S → Rows
rows_of entries = map (λ entry. (entry.0, row_of entry.1)) entries

-- the slot of each collection
abbrev pub slots_of : {S : Type 0} → Entries S → List (List ℕ × S)
slots_of entries = map (λ entry. (entry.0, entry.1.slot)) entries

-- the collection of a file that a start lists: it is locked, and shows the clear part that was read
abbrev pub loaded_from : {S : Type 0} → RingState S → List ℕ × CollectionState S
loaded_from ring = (ring.stem, record { slot = ring.cell.slot; file = ring.cell.file; clear = by_id ring.clear; other = None; held = None })

-- the same list with what is at a stem changed
abbrev pub changed : {V : Type 0} → List ℕ → (V → V) → List (List ℕ × V) → List (List ℕ × V)
changed stem change entries = map (λ entry. if is_name stem entry.0 then (entry.0, change entry.1) else entry) entries

-- a collection once it is locked
abbrev pub closed : {S : Type 0} → CollectionState S → CollectionState S
closed collection = record collection { held = None }

-- the same list without the collection of a stem
abbrev pub without : {V : Type 0} → List ℕ → List (List ℕ × V) → List (List ℕ × V)
without stem entries = filter (λ entry. not (is_name stem entry.0)) entries

-- the same list with a collection in its place
abbrev pub inserted : {V : Type 0} → List ℕ → V → List (List ℕ × V) → List (List ℕ × V)
inserted stem value entries =
    filter (λ entry. is_lt (slice_cmp nat_cmp entry.0 stem)) entries
    ++ (stem, value) ∷ filter (λ entry. is_lt (slice_cmp nat_cmp stem entry.0)) entries

-- the table with another collection at a stem that is there
abbrev pub with_collection : {S : Type 0} → List ℕ → TableState S → CollectionState S → TableState S
with_collection stem table collection = record table { entries = changed stem (λ _. collection) table.entries }

-- ---- places

-- the same list with another value at a place
abbrev pub set_place : {V : Type 0} → List (List ℕ × V) → ℕ → V → List (List ℕ × V)
set_place [] place value = []
set_place (entry ∷ entries) zero value = (entry.0, value) ∷ entries
set_place (entry ∷ entries) (suc place) value = entry ∷ set_place entries place value

-- the table with another collection at a place
abbrev pub with_place : {S : Type 0} → TableState S → ℕ → CollectionState S → TableState S
with_place table place collection = record table { entries = set_place table.entries place collection }

-- the stem is at this place
pub record IsPlaceOf {V : Type 0} (stem : List ℕ) (entries : List (List ℕ × V)) (place : ℕ) : Type 0 where
  pub value : V
  pub at : slice_get entries place ≡ Some (stem, value)
