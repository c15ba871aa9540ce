-- A text that is a list of pieces, joined by a separator, as entries by `;` and pairs by `,` (D-Bus Specification,
-- "Server Addresses").
use Rattle.std.specs.Prelude.{◌≡◌, ◌≢◌, ℕ, ◌==◌, Bool, List, [], ◌∷◌, ◌++◌, All, if◌then◌else◌}
use Rattle.std.specs.List.{list_any}

-- the parts of a text before and after the first separator
pub record IsCut (separator : ℕ) (text front back : List ℕ) : Type 0 where
  pub spelled : text ≡ front ++ separator ∷ back
  pub first : All (λ byte. byte ≢ separator) front

-- whether the separator is there
abbrev pub has_separator : ℕ → List ℕ → Bool
has_separator separator text = list_any (λ byte. byte == separator) text

-- the bytes before the first separator, or all if there is none
abbrev pub before : ℕ → List ℕ → List ℕ
before separator [] = []
before separator (byte ∷ text) = if byte == separator then [] else byte ∷ before separator text

-- the bytes after the first separator, or none if there is none
abbrev pub after : ℕ → List ℕ → List ℕ
after separator [] = []
after separator (byte ∷ text) = if byte == separator then text else after separator text

-- the pieces with this byte in front of the first one
abbrev pub with_byte : ℕ → List (List ℕ) → List (List ℕ)
with_byte byte [] = (byte ∷ []) ∷ []
with_byte byte (piece ∷ pieces) = (byte ∷ piece) ∷ pieces

-- the pieces between the separators: one more than there are separators
abbrev pub pieces : ℕ → List ℕ → List (List ℕ)
pieces separator [] = [] ∷ []
pieces separator (byte ∷ text) = if byte == separator then [] ∷ pieces separator text else with_byte byte (pieces separator text)

-- a piece and more of them, joined
abbrev pub joined : ℕ → List ℕ → List (List ℕ) → List ℕ
joined separator piece [] = piece
joined separator piece (next ∷ more) = piece ++ separator ∷ joined separator next more

-- the text is these pieces, joined by the separator, which is in none of them
pub record IsJoined (separator : ℕ) (text first : List ℕ) (more : List (List ℕ)) : Type 0 where
  pub spelled : text ≡ joined separator first more
  pub first_apart : All (λ byte. byte ≢ separator) first
  pub apart : All (λ piece. All (λ byte. byte ≢ separator) piece) more
