-- The text that is written of aliases (docs/KEYRING_FILES.md, "The aliases").
use Rattle.std.specs.Prelude.{ℕ, Bool, not, List, [], ◌∷◌, ◌++◌, All}
use Rattle.std.specs.Char.{is_ascii_alphanumeric}
use Rattle.std.specs.List.{flat_map}
use Rattle.kr_base.specs.Attributes.{IsInOrder}
use Rattle.kr_base.specs.Stem.{IsStem}
use Rattle.kr_names.specs.Escape.{escaped}
use Rattle.kr_names.specs.Path.{IsAliasName}

-- the byte isn't a letter or a digit, so in a path it is `_` and two digits
abbrev pub is_odd : ℕ → Bool
is_odd byte = not (is_ascii_alphanumeric byte)

-- the line of an alias, without its ending: `A=X`, with the stem escaped as in a path
abbrev pub line_of : List ℕ × List ℕ → List ℕ
line_of alias = alias.0 ++ 61 ∷ escaped alias.1

-- the text of aliases: the line of each with its ending, in their order
unfoldable pub text_of : List (List ℕ × List ℕ) → List ℕ
text_of aliases = flat_map (λ alias. line_of alias ++ 10 ∷ []) aliases

-- aliases that a file can contain: they are in byte order of their names, each of which is a name of an alias, and they
-- stand for stems
pub record AreAliases (aliases : List (List ℕ × List ℕ)) : Type 0 where
  pub ordered : IsInOrder aliases
  pub each : All (λ alias. IsAliasName alias.0 × IsStem alias.1) aliases

-- the most aliases that are stored
abbrev pub most_aliases : ℕ
most_aliases = 1024
