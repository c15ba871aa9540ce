-- The password of a check: the first line of an input (docs/KEYRING_FILES.md, "Checking a folder").
use Rattle.std.specs.Prelude.{◌≡◌, ℕ, ◌<◌, ◌⊎◌, Bool, true, false, List, [], ◌∷◌, ◌++◌, length, Contains, Option, None, Some}
use Rattle.std.specs.Io.KnownBytes.{Consumes, IsAtEnd}

-- the bytes have no line feed
abbrev pub IsOneLine : List ℕ → Type 0
IsOneLine bytes = ¬ (Contains bytes 10)

-- a line of less than 4,096 bytes was read, with the line feed after it, or to the end of the input
pub record TakesLine (old new : Option (List ℕ)) (line : List ℕ) : Type 0 where
  pub short : length line < 4096
  pub one_line : IsOneLine line
  pub took : Consumes old new (line ++ 10 ∷ []) ⊎ (Consumes old new line × IsAtEnd new)

-- 4,096 bytes were read, and no line feed is among them
pub record TakesTooMuch (old new : Option (List ℕ)) : Type 0 where
  pub bytes : List ℕ
  pub all : length bytes ≡ 4096
  pub one_line : IsOneLine bytes
  pub took : Consumes old new bytes

-- one byte was read, or the end of the input was reached
abbrev pub TakesByte : Option (List ℕ) → Option (List ℕ) → Option ℕ → Type 0
TakesByte old new None = Consumes old new [] × IsAtEnd new
TakesByte old new (Some byte) = Consumes old new (byte ∷ [])

-- The password of a check: if one is asked for, the first line of the input, and otherwise none, and the input isn't touched.
abbrev pub TakesPassword : {I : Type 0} → (I → Option (List ℕ)) → Bool → I → I → Option (List ℕ) → Type 0
TakesPassword left false old new password = (password ≡ None) × (new ≡ old)
TakesPassword left true old new None = ⊥
TakesPassword left true old new (Some line) = TakesLine (left old) (left new) line
