-- D-Bus Specification, "Marshaling", "Valid Object Paths".
use Rattle.std.specs.Prelude.{ℕ, ◌==◌, ◌&&◌, ◌||◌, nat_le, Bool, true, false, List, [], ◌∷◌, if◌then◌else◌}

-- a code of [A-Za-z0-9_]
abbrev pub is_element_code : ℕ → Bool
is_element_code code =
    (nat_le 48 code && nat_le code 57) || (nat_le 65 code && nat_le code 90) || (nat_le 97 code && nat_le code 122) || code == 95

-- The codes after a slash are elements, joined by slashes, none of which is empty. The flag says whether a code of
-- the first element has come already.
abbrev pub are_elements : Bool → List ℕ → Bool
are_elements begun [] = begun
are_elements begun (code ∷ codes) =
    if code == 47 then begun && are_elements false codes else is_element_code code && are_elements true codes

-- there is no code
abbrev pub is_none : List ℕ → Bool
is_none [] = true
is_none (code ∷ codes) = false

-- the root, or elements, each after a slash
abbrev pub is_object_path : List ℕ → Bool
is_object_path [] = false
is_object_path (code ∷ codes) = code == 47 && (is_none codes || are_elements false codes)
