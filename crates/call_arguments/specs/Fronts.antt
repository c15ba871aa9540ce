-- What comes after a prefix of a text.
use Rattle.std.specs.Prelude.{ℕ, ◌==◌, if◌then◌else◌, List, [], ◌∷◌, Option, Some, None}

-- what comes after this prefix, if the text begins with it
abbrev pub behind : List ℕ → List ℕ → Option (List ℕ)
behind [] text = Some text
behind (code ∷ front) [] = None
behind (code ∷ front) (first ∷ text) = if code == first then behind front text else None
