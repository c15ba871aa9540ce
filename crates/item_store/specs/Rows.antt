-- The items of one collection as rows by rising id (Secret Service API, interfaces Collection and Item), and the index beside them.
use denote.Ref.{Bor}
use Rattle.std.specs.Prelude.{◌≡◌, ℕ, ◌+◌, Bool, false, if◌then◌else◌, List, [], ◌∷◌, Option, Some, None, map, filter, not, nat_eq}
use Rattle.std.specs.List.{slice_get}
use Rattle.std.specs.List.Sorted.{IsStrictlySortedBy}
use Rattle.std.specs.Map.{keys_of, lookup}
use Rattle.std.specs.Ordering.{nat_cmp}
use Rattle.kr_base.specs.declared.attributes.AttrValue.{AttrValue}
use Rattle.kr_base.specs.declared.ids.ItemId.{ItemId}
use Rattle.keyring_file.specs.declared.area.FullItem.{FullItem}
use Rattle.attribute_match.specs.Match.{has_pair, is_equal, text_of}
use Rattle.attribute_index.specs.Entries.{Items}
use Rattle.attribute_index.specs.Index.{Index, ids_at}

-- an item with its type, which is kept as it was in the file
pub record Row : Type 0 where
  pub kind : ℕ
  pub item : FullItem

-- the greatest id that an item can have: ids have 32 bits
abbrev pub greatest_id : ℕ
greatest_id = 4294967295

-- how many attributes a call may give an item
abbrev pub most_attributes : ℕ
most_attributes = 256

-- each item's row, with its id
abbrev pub Rows : Type 0
Rows = List (ℕ × Row)

-- the attributes of a row's item
abbrev pub attributes_of : Row → List (List ℕ × AttrValue)
attributes_of row = row.item.attributes

-- the ids of the rows that pass
abbrev pub ids_where : (Row → Bool) → Rows → List ℕ
ids_where passes rows = map (λ row. row.0) (filter (λ row. passes row.1) rows)

-- the row of an id
abbrev pub row_at : ℕ → Rows → Option Row
row_at id rows = lookup (nat_eq id) rows

-- the rows without that of an id
abbrev pub rows_without : ℕ → Rows → Rows
rows_without id rows = filter (λ row. not (nat_eq row.0 id)) rows

-- the rows with that of an id changed
abbrev pub rows_changed : ℕ → (Row → Row) → Rows → Rows
rows_changed id change rows = map (λ row. if nat_eq row.0 id then (row.0, change row.1) else row) rows

-- the greatest id, or 0
abbrev pub last_id : Rows → ℕ
last_id [] = 0
last_id (row ∷ []) = row.0
last_id (row ∷ next ∷ more) = last_id (next ∷ more)

-- the id of a new item, if there is one left
abbrev pub next_id : Rows → Option ℕ
next_id rows = if nat_eq (last_id rows) greatest_id then None else Some (last_id rows + 1)

-- the index has, at each name and text, the ids of the rows that have the pair
pub record IsIndexed (rows : Rows) (index : Index) : Type 0 where
  pub pairs : (name text : List ℕ) → ids_at index name text ≡ ids_where (λ row. has_pair name text (attributes_of row)) rows
  pub all : index.all ≡ keys_of rows

-- the ids rise
abbrev pub IsRising : Rows → Type 0
IsRising rows = IsStrictlySortedBy nat_cmp (keys_of rows)

-- the invariant of the type of the items
pub record IsKept (rows : Rows) (index : Index) : Type 0 where
  pub rising : IsRising rows
  pub indexed : IsIndexed rows index

-- the item has exactly the given attributes, as texts
abbrev pub has_just : List (List ℕ × AttrValue) → Row → Bool
has_just given row = is_equal given (attributes_of row)

-- whether the row of an id is there and passes
abbrev pub passes_at : (Row → Bool) → Option Row → Bool
passes_at passes None = false
passes_at passes (Some row) = passes row

-- the ids of the items that have the first of the attributes, or of all items if there are no attributes
abbrev pub candidates : List (List ℕ × AttrValue) → Index → List ℕ
candidates [] index = index.all
candidates (pair ∷ more) index = ids_at index pair.0 (text_of pair.1)

-- the first id, if there is one
abbrev pub first_id : List ℕ → Option ℕ
first_id [] = None
first_id (id ∷ more) = Some id

-- the ids of the items that have each of the wanted pairs, pair by pair
abbrev pub pair_lists : List (List ℕ × AttrValue) → Rows → List (List ℕ)
pair_lists wanted rows = map (λ pair. ids_where (λ row. has_pair pair.0 (text_of pair.1) (attributes_of row)) rows) wanted

-- an item that is given with its id and its kind, without the id
abbrev pub kept_of : ItemId × ℕ × FullItem → Row
kept_of given = record { kind = given.1; item = given.2 }

-- the row of an item that is given so
abbrev pub row_of : ItemId × ℕ × FullItem → ℕ × Row
row_of given = (given.0.0, kept_of given)

-- the row of an id is at this place
pub record IsPlaceOf (id : ℕ) (given : List (ItemId × ℕ × FullItem)) (place : ℕ) : Type 0 where
  pub found : ItemId × ℕ × FullItem
  pub at : slice_get given place ≡ Some found
  pub its : found.0.0 ≡ id

-- the rows are those of the given items, by rising id
pub record HasJustRows (given : List (ItemId × ℕ × FullItem)) (rows : Rows) : Type 0 where
  pub rising : IsRising rows
  pub each : (id : ℕ) → row_at id rows ≡ row_at id (map row_of given)

-- the row's id and attributes, as an index is given them
abbrev pub given_of : ItemId × Bor (List (List ℕ × AttrValue)) → ℕ × List (List ℕ × AttrValue)
given_of item = (item.0.0, item.1.now)

-- the same for a row
abbrev pub given_row : ℕ × Row → ℕ × List (List ℕ × AttrValue)
given_row row = (row.0, attributes_of row.1)

-- the items are those of the rows
abbrev pub AreOf : Rows → Items → Type 0
AreOf rows items = map given_of items ≡ map given_row rows
