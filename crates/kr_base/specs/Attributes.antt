-- Attributes: names with their values (Secret Service API, "Lookup Attributes"). The list is in byte order of names, and no name
-- occurs twice in it.
use Rattle.std.specs.Prelude.{◌≡◌, ℕ, Bool, List, [], ◌∷◌, Option, Some, None, if◌then◌else◌}
use Rattle.std.specs.BTreeMap.{insert_entry}
use Rattle.std.specs.Cmp.Lexicographic.{slice_cmp}
use Rattle.std.specs.List.{fold}
use Rattle.std.specs.List.Sorted.{IsStrictlySortedBy}
use Rattle.std.specs.Map.{keys_of, lookup}
use Rattle.std.specs.Option.{option_or}
use Rattle.std.specs.Ordering.{nat_cmp, is_eq}

-- whether two names have the same bytes
abbrev pub is_name : List ℕ → List ℕ → Bool
is_name name other = is_eq (slice_cmp nat_cmp name other)

-- each name is less than the next ones in byte order
abbrev pub IsInOrder : {V : Type 0} → List (List ℕ × V) → Type 0
IsInOrder attributes = IsStrictlySortedBy (slice_cmp nat_cmp) (keys_of attributes)

-- the value of the name, if there is one
abbrev pub value_at : {V : Type 0} → List ℕ → List (List ℕ × V) → Option V
value_at name attributes = lookup (is_name name) attributes

-- the value of the last pair that has the name
abbrev pub last_value : {V : Type 0} → List ℕ → List (List ℕ × V) → Option V
last_value name [] = None
last_value name (pair ∷ more) = option_or (last_value name more) (if is_name pair.0 name then Some pair.1 else None)

-- the attributes have each name of the pairs once, in order, with the value of the last pair that has it
pub record Gathers {V : Type 0} (pairs attributes : List (List ℕ × V)) : Type 0 where
  pub ordered : IsInOrder attributes
  pub values : (name : List ℕ) → value_at name attributes ≡ last_value name pairs

-- the attributes with one pair more, in its place: an equal name has the new value
abbrev pub with_pair : {V : Type 0} → List (List ℕ × V) → List ℕ × V → List (List ℕ × V)
with_pair attributes pair = insert_entry (slice_cmp nat_cmp) attributes pair.0 pair.1

-- The attributes that are gathered of pairs, as a function. The law `pairs_gather_what_is_gathered` says that it is what the
-- relation says.
unfoldable pub gathered : {V : Type 0} → List (List ℕ × V) → List (List ℕ × V)
gathered pairs = fold with_pair [] pairs
