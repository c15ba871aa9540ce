-- D-Bus Specification, "Valid Names": interface names, error names and member names.
use Rattle.std.specs.Prelude.{ℕ, ◌==◌, ◌&&◌, ◌||◌, nat_le, not, Bool, true, false, List, [], ◌∷◌, length, if◌then◌else◌}
use Rattle.std.specs.List.{list_any}
use Rattle.std.specs.Char.{is_ascii_digit}
use Rattle.dbus_types.specs.Paths.{is_element_code}

-- Elements of [A-Za-z0-9_], joined by dots: none is empty, and none begins with a digit. The flag says whether a code
-- of the first element has come already.
abbrev pub are_name_elements : Bool → List ℕ → Bool
are_name_elements begun [] = begun
are_name_elements begun (code ∷ codes) =
    if code == 46 then begun && are_name_elements false codes
    else ((begun || not (is_ascii_digit code)) && is_element_code code) && are_name_elements true codes

-- there is a dot
abbrev pub has_dot : List ℕ → Bool
has_dot bytes = list_any (λ code. code == 46) bytes

-- the most bytes of a name
abbrev pub name_limit : ℕ
name_limit = 255

-- a member name is one element
abbrev pub is_member_name : List ℕ → Bool
is_member_name bytes = nat_le (length bytes) name_limit && (not (has_dot bytes) && are_name_elements false bytes)

-- an interface name, and an error name, is two or more elements
abbrev pub is_interface_name : List ℕ → Bool
is_interface_name bytes = nat_le (length bytes) name_limit && (has_dot bytes && are_name_elements false bytes)
