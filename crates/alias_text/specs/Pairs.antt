-- The whole file `aliases` (docs/KEYRING_FILES.md, "The aliases").
use Rattle.std.specs.Prelude.{◌≢◌, ◌≡◌, ℕ, ◌<◌, ◌≤◌, List, [], ◌∷◌, ◌++◌, All, length, Option, None, Some}
use Rattle.std.specs.List.{flat_map}
use Rattle.kr_base.specs.Attributes.{Gathers}
use Rattle.alias_text.specs.Line.{IsPair}

-- the lines, each with its ending
abbrev pub ended : List (List ℕ) → List ℕ
ended lines = flat_map (λ line. line ++ 10 ∷ []) lines

-- it contains no line ending
abbrev pub IsOneLine : List ℕ → Type 0
IsOneLine line = All (λ byte. byte ≢ 10) line

-- the bytes are these lines, each with its ending, and then bytes without a line ending, which aren't a line
pub record HasLines (bytes : List ℕ) (lines : List (List ℕ)) : Type 0 where
  pub rest : List ℕ
  pub spelled : bytes ≡ ended lines ++ rest
  pub apart : All IsOneLine lines
  pub unended : IsOneLine rest

-- the pairs that the lines give, in order: a line that gives no alias is skipped
pub data Gives : List (List ℕ) → List (List ℕ × List ℕ) → Type 0 where
  nothing : Gives [] []
  skipped : (lines : List (List ℕ)) (pairs : List (List ℕ × List ℕ)) (line : List ℕ) → Gives lines pairs
      → ((name stem : List ℕ) → ¬ (IsPair line name stem)) → Gives (lines ++ line ∷ []) pairs
  given : (lines : List (List ℕ)) (pairs : List (List ℕ × List ℕ)) (line name stem : List ℕ) → Gives lines pairs
      → IsPair line name stem → Gives (lines ++ line ∷ []) (pairs ++ (name, stem) ∷ [])

-- the aliases that any number of bytes give: the pairs of their lines, in byte order of the names; of pairs with the
-- same name, the last one
pub record LinesGive (bytes : List ℕ) (aliases : List (List ℕ × List ℕ)) : Type 0 where
  pub lines : List (List ℕ)
  pub pairs : List (List ℕ × List ℕ)
  pub cut : HasLines bytes lines
  pub given : Gives lines pairs
  pub gathered : Gathers pairs aliases

-- the most bytes that the file may have
abbrev pub longest : ℕ
longest = 1048576

-- the aliases that the bytes of the file give: a file that is too long gives none
pub data AliasesOf : List ℕ → List (List ℕ × List ℕ) → Type 0 where
  too_long : (bytes : List ℕ) → longest < length bytes → AliasesOf bytes []
  read : (bytes : List ℕ) (aliases : List (List ℕ × List ℕ)) → length bytes ≤ longest
      → LinesGive bytes aliases → AliasesOf bytes aliases

-- the aliases that the file gives; if there is no file, none
abbrev pub GivesAliases : Option (List ℕ) → List (List ℕ × List ℕ) → Type 0
GivesAliases None aliases = aliases ≡ []
GivesAliases (Some bytes) aliases = AliasesOf bytes aliases
