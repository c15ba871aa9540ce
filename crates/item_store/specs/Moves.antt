-- The items of one collection while the attributes of one of them change.
use Rattle.std.specs.Prelude.{◌≡◌, ℕ, List, true, IfSome}
use Rattle.std.specs.Option.{is_some}
use Rattle.attribute_index.specs.Index.{Index, IsTaken, Names, is_own}
use Rattle.kr_base.specs.declared.attributes.AttrValue.{AttrValue}
use Rattle.item_store.specs.Rows.{IsKept, Row, Rows, attributes_of, row_at, rows_changed}

-- the rows before the change and after it
pub record Moves : Type 0 where
  pub before : Rows
  pub after : Rows

-- the row with these attributes, and with this as the time of its last change
abbrev pub with_attributes : List (List ℕ × AttrValue) → ℕ → Row → Row
with_attributes attributes modified row = record row { item = record row.item { attributes = attributes; modified = modified } }

-- the id is at the pairs of the old and of the new attributes: once it is taken out of those of the old ones alone, the index agrees with
-- the rows, and once it is taken out of those of the new ones alone, with the rows as they were before
pub record IsMoving (rows : Rows) (index : Index) (number : ℕ) (other : List (List ℕ × AttrValue)) (modified : ℕ) : Type 0 where
  pub there : is_some (row_at number rows) ≡ true
  pub forward : (names : Names) → IfSome (row_at number rows) (λ row. IsTaken (is_own other (attributes_of row)) number index.names names) → IsKept rows (record { names = names; all = index.all })
  pub back : (names : Names) → IfSome (row_at number rows) (λ row. IsTaken (is_own (attributes_of row) other) number index.names names)
      → IsKept (rows_changed number (with_attributes other modified) rows) (record { names = names; all = index.all })
