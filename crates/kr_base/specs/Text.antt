-- D-Bus Specification, "Type System": what makes bytes a string. They are UTF-8, and none of them is zero.
use Rattle.std.specs.Prelude.{ℕ, List, Contains, IsUtf8}

-- a zero byte is among the bytes
abbrev pub HasZero : List ℕ → Type 0
HasZero bytes = Contains bytes 0

-- what the type of a text guarantees of its bytes
pub record IsText (bytes : List ℕ) : Type 0 where
  pub utf8 : IsUtf8 bytes
  pub no_zero : ¬ (HasZero bytes)
