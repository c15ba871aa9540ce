-- An address of a message bus: entries joined by `;` (D-Bus Specification, "Server Addresses").
use Rattle.std.specs.Prelude.{ℕ, ◌==◌, ◌&&◌, ◌||◌, not, Bool, List, length, option_to_list}
use Rattle.std.specs.List.{list_all, flat_map}
use Rattle.bus_address.specs.declared.entry.Place.{Place}
use Rattle.bus_address.specs.Pieces.{pieces}
use Rattle.bus_address.specs.Entries.{is_entry, place_of}

-- an entry that is empty counts as nothing
abbrev pub is_part : List ℕ → Bool
is_part entry = (length entry == 0) || is_entry entry

-- whether the text, which has a byte at least, is an address
abbrev pub is_address : List ℕ → Bool
is_address text = not (length text == 0) && list_all is_part (pieces 59 text)

-- the places of entries, in order
abbrev pub places_among : List (List ℕ) → List Place
places_among entries = flat_map (λ entry. option_to_list (place_of entry)) entries

-- the places of an address, in order
abbrev pub places_of : List ℕ → List Place
places_of text = places_among (pieces 59 text)
