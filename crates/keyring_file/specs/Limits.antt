-- How large a keyring file may be (docs/KEYRING_FILES.md, "A folder").
use Rattle.std.specs.Prelude.{ℕ}

-- the most bytes of a keyring file
abbrev pub file_limit : ℕ
file_limit = 67108864
