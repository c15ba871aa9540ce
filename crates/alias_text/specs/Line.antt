-- One line of the file `aliases` (docs/KEYRING_FILES.md, "The aliases").
use Rattle.std.specs.Prelude.{◌≡◌, ◌≢◌, ℕ, List, ◌∷◌, ◌++◌, All}
use Rattle.kr_base.specs.Stem.{IsStem}
use Rattle.kr_names.specs.Escape.{escaped}
use Rattle.kr_names.specs.Path.{IsAliasName}

-- the parts of a text before and after the first occurrence of this byte
pub record IsCut (at : ℕ) (text front back : List ℕ) : Type 0 where
  pub spelled : text ≡ front ++ at ∷ back
  pub first : All (λ byte. byte ≢ at) front

-- the line gives this alias for this stem: `A=X`, with the stem escaped as in a path
pub record IsPair (line name stem : List ℕ) : Type 0 where
  pub alias : IsAliasName name
  pub is_stem : IsStem stem
  pub spelled : line ≡ name ++ 61 ∷ escaped stem
