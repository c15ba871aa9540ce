-- A content as it is sealed: its items by rising number, with the hashes of their attributes.
use Rattle.std.specs.Prelude.{◌≡◌, ℕ, ◌≤◌, List, ◌∷◌, ◌++◌, length, map, nat_eq}
use denote.Ref.{Bor}
use Rattle.std.specs.List.{zip, AllByRecursion, IsDistinct}
use Rattle.std.specs.List.Sorted.{IsPermutation, IsStrictlyIncreasing}
use Rattle.attribute_hash.specs.Hash.{hashes}
use Rattle.keyring_file.specs.Clear.{ClearPart}
use Rattle.keyring_file.specs.ClearText.{most_iterations}
use Rattle.keyring_file.specs.declared.area.FullItem.{FullItem}
use Rattle.keyring_file.specs.declared.clear.ClearItem.{ClearItem}
use Rattle.keyring_file.specs.Known.{IsKnownClear, IsKnownClearItem, IsKnownItem}
use Rattle.keyring_seal.specs.declared.content.Content.{Content}
use Rattle.keyring_seal.specs.Order.{by_number}

-- an item as both parts of a file have it
abbrev pub Row : Type 0
Row = ClearItem × FullItem

-- the items of a content, each as both parts have it
abbrev pub rows : Content → List Row
rows content = zip content.clear.items content.items

-- the number of an item
abbrev pub row_number : Row → ℕ
row_number row = row.0.id.0

-- an item with the hashes of its own attributes
abbrev pub hashed_row : Row → Row
hashed_row row = (record row.0 { hashed = hashes row.1.attributes }, row.1)

-- the items by rising number, with the hashes of their own attributes
abbrev pub arranged_rows : Content → List Row
arranged_rows content = map hashed_row (by_number row_number (rows content))

-- the content of a front and of rows; the items of the front don't matter
abbrev pub of_rows : ClearPart → List Row → Content
of_rows front these = record {
  clear = record front { items = map (λ row. row.0) these };
  items = map (λ row. row.1) these;
}

-- the content of a front and of borrowed rows
abbrev pub of_lent : ClearPart → List (Bor ClearItem × Bor FullItem) → Content
of_lent front lent = of_rows front (map (λ row. (row.0.now, row.1.now)) lent)

-- the content as it is sealed
abbrev pub arranged : Content → Content
arranged content = of_rows content.clear (arranged_rows content)

-- The same content with its items by rising numbers, each with the hashes of its own attributes. Everything
-- else is unchanged.
pub record IsArrangement (content made : Content) : Type 0 where
  pub rest : made.clear ≡ record content.clear { items = made.clear.items }
  pub counted : length made.items ≡ length made.clear.items
  pub same : IsPermutation (map hashed_row (rows content)) (rows made)
  pub rising : IsStrictlyIncreasing (map (λ item. item.id.0) made.clear.items)

-- what the types of a content guarantee of its values
pub record IsKnown (content : Content) : Type 0 where
  pub clear : IsKnownClear content.clear
  pub clear_items : AllByRecursion IsKnownClearItem content.clear.items
  pub items : AllByRecursion IsKnownItem content.items

-- what the types of both parts of a borrowed row guarantee
pub record IsKnownLent (row : Bor ClearItem × Bor FullItem) : Type 0 where
  pub clear : IsKnownClearItem row.0.now
  pub item : IsKnownItem row.1.now

-- what can be sealed
pub record IsSealable (content : Content) : Type 0 where
  pub counted : length content.items ≡ length content.clear.items
  pub distinct : IsDistinct nat_eq (map (λ item. item.id.0) content.clear.items)
  pub iterations : content.clear.iterations ≤ most_iterations

-- the contents are equal, except for the value of one item, which is as long in both
pub record DiffersInOneValue (one two : Content) : Type 0 where
  pub clear : two.clear ≡ one.clear
  pub before : List FullItem
  pub item : FullItem
  pub after : List FullItem
  pub value : List ℕ
  pub first : one.items ≡ before ++ item ∷ after
  pub second : two.items ≡ before ++ record item { value = value } ∷ after
  pub as_long : length value ≡ length item.value
