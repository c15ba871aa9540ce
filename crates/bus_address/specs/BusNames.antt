-- D-Bus Specification, "Bus names": well-known names.
use Rattle.std.specs.Prelude.{ℕ, ◌==◌, ◌&&◌, ◌||◌, nat_le, not, Bool, false, List, [], ◌∷◌, length}
use Rattle.std.specs.Char.{is_ascii_alphanumeric, is_ascii_digit}
use Rattle.std.specs.List.{list_all}
use Rattle.bus_address.specs.Pieces.{has_separator, pieces}

-- one of [A-Za-z0-9_-]
abbrev pub is_name_byte : ℕ → Bool
is_name_byte byte = is_ascii_alphanumeric byte || ((byte == 95) || (byte == 45))

-- an element has one such byte or more, and doesn't begin with a digit
abbrev pub is_element : List ℕ → Bool
is_element [] = false
is_element (byte ∷ element) = not (is_ascii_digit byte) && list_all is_name_byte (byte ∷ element)

-- a well-known name is two elements or more, joined by `.`, in at most 255 bytes. A name that begins with `:` is a unique
-- one.
abbrev pub is_well_known_name : List ℕ → Bool
is_well_known_name name = nat_le (length name) 255 && (has_separator 46 name && list_all is_element (pieces 46 name))
