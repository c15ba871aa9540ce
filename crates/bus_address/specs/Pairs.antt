-- The pairs of a key and a value in an entry (D-Bus Specification, "Server Addresses").
use Rattle.std.specs.Prelude.{ℕ, ◌&&◌, not, Bool, true, List, [], ◌∷◌, Option, Some, None, if◌then◌else◌}
use Rattle.std.specs.List.{list_all, list_any}
use Rattle.std.specs.Str.{bytes_eq}
use Rattle.bus_address.specs.Pieces.{has_separator, before, after}
use Rattle.bus_address.specs.Values.{is_value}

-- the key of a pair
abbrev pub key_of : List ℕ → List ℕ
key_of pair = before 61 pair

-- the value of a pair, as it is written
abbrev pub value_of : List ℕ → List ℕ
value_of pair = after 61 pair

-- whether the text is KEY=VALUE
abbrev pub is_pair : List ℕ → Bool
is_pair pair = has_separator 61 pair && is_value (value_of pair)

-- whether one of the pairs has the key
abbrev pub has_key : List ℕ → List (List ℕ) → Bool
has_key key pairs = list_any (λ pair. bytes_eq (key_of pair) key) pairs

-- whether no key is there twice
abbrev pub are_distinct : List (List ℕ) → Bool
are_distinct [] = true
are_distinct (pair ∷ pairs) = not (has_key (key_of pair) pairs) && are_distinct pairs

-- whether these are pairs, with no key twice
abbrev pub are_pairs : List (List ℕ) → Bool
are_pairs pairs = list_all is_pair pairs && are_distinct pairs

-- the value of a key, as it is written
abbrev pub value_in : List ℕ → List (List ℕ) → Option (List ℕ)
value_in key [] = None
value_in key (pair ∷ pairs) = if bytes_eq (key_of pair) key then Some (value_of pair) else value_in key pairs
