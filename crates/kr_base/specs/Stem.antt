-- A collection's stem: what comes before `.keyring` in the name of its file (docs/SERVICE.md, "Names and paths").
use Rattle.std.specs.Prelude.{◌≡◌, ℕ, ◌<◌, ◌≤◌, ◌⊎◌, List, [], length, Contains}
use Rattle.kr_base.specs.Text.{HasZero, IsText}

-- the most bytes of a stem
abbrev pub stem_limit : ℕ
stem_limit = 243

-- what the type of a stem guarantees of its bytes: a text that, with `.keyring.tmp` after it, can be a file's name
pub record IsStem (bytes : List ℕ) : Type 0 where
  pub text : IsText bytes
  pub some : 0 < length bytes
  pub fits : length bytes ≤ stem_limit
  pub no_slash : ¬ (Contains bytes 47)

-- why a text isn't a stem: it is empty, too long, or contains `/` or a zero byte
abbrev pub IsNoStem : List ℕ → Type 0
IsNoStem bytes = (bytes ≡ []) ⊎ (stem_limit < length bytes) ⊎ Contains bytes 47 ⊎ HasZero bytes
