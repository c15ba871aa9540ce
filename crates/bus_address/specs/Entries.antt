-- An entry of an address: a transport, `:`, and pairs joined by `,` (D-Bus Specification, "Server Addresses").
use Rattle.std.specs.Prelude.{ℕ, ◌&&◌, Bool, List, [], ◌∷◌, Option, Some, None, codes, if◌then◌else◌}
use Rattle.std.specs.Str.{bytes_eq}
use Rattle.bus_address.specs.declared.entry.Place.{Place}
use Rattle.bus_address.specs.declared.entry.Place.TheVariants.{Path, Abstract}
use Rattle.bus_address.specs.Pieces.{has_separator, before, after, pieces}
use Rattle.bus_address.specs.Values.{unescaped}
use Rattle.bus_address.specs.Pairs.{are_pairs, value_in}

-- the name of its transport
abbrev pub transport_of : List ℕ → List ℕ
transport_of entry = before 58 entry

-- the pairs in a text: none if it is empty
abbrev pub pairs_in : List ℕ → List (List ℕ)
pairs_in [] = []
pairs_in (byte ∷ text) = pieces 44 (byte ∷ text)

-- its pairs
abbrev pub pairs_of : List ℕ → List (List ℕ)
pairs_of entry = pairs_in (after 58 entry)

-- whether the text is an entry
abbrev pub is_entry : List ℕ → Bool
is_entry entry = has_separator 58 entry && are_pairs (pairs_of entry)

-- the transport of Unix domain sockets, and the two keys that name one ("Unix Domain Sockets")
unfoldable pub unix : List ℕ
unix = codes "unix"

unfoldable pub path : List ℕ
path = codes "path"

unfoldable pub abstract_name : List ℕ
abstract_name = codes "abstract"

-- the place of a path and of an abstract name: there is one if exactly one of the two is there
abbrev pub place_among : Option (List ℕ) → Option (List ℕ) → Option Place
place_among (Some value) None = Some (Path (unescaped value))
place_among None (Some value) = Some (Abstract (unescaped value))
place_among _ _ = None

-- the place of an entry
abbrev pub place_of : List ℕ → Option Place
place_of entry =
    if bytes_eq (transport_of entry) unix then place_among (value_in path (pairs_of entry)) (value_in abstract_name (pairs_of entry)) else None
