-- Rows in the order of rising numbers.
use Rattle.std.specs.Prelude.{ℕ, List, [], ◌∷◌}
use Rattle.std.specs.BTreeMap.{insert_entry}
use Rattle.std.specs.Map.{values_of}
use Rattle.std.specs.Ordering.{nat_cmp}

-- the rows, each inserted where its number belongs among those before it
abbrev pub entered : {X : Type 0} → (X → ℕ) → List (ℕ × X) → List X → List (ℕ × X)
entered number standing [] = standing
entered number standing (row ∷ more) = entered number (insert_entry nat_cmp standing (number row) row) more

-- the rows by rising numbers
unfoldable pub by_number : {X : Type 0} → (X → ℕ) → List X → List X
by_number number rows = values_of (entered number [] rows)
