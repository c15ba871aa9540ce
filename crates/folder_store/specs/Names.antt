-- The names in a folder (docs/KEYRING_FILES.md, "A folder").
use Rattle.std.specs.Prelude.{◌≡◌, ◌⊎◌, ℕ, List, ◌++◌, codes}
use Rattle.kr_base.specs.Stem.{IsStem}

-- how the name of a keyring file ends
unfoldable pub ending : List ℕ
ending = codes ".keyring"

-- the name of the file of the aliases
unfoldable pub aliases : List ℕ
aliases = codes "aliases"

-- the name is that of the keyring file with this stem; the name of a left-over temporary file, one
-- without a stem, and one whose stem would be too long are not
pub record IsRingName (name stem : List ℕ) : Type 0 where
  pub is_stem : IsStem stem
  pub spelled : name ≡ stem ++ ending

-- the name is that of a file that a load looks at: a keyring file, or the file of the aliases
abbrev pub IsLoadName : List ℕ → Type 0
IsLoadName name = (name ≡ aliases) ⊎ ((stem : List ℕ) × IsRingName name stem)
