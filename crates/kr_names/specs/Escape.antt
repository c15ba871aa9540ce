-- How a path spells a stem (docs/SERVICE.md, "Names and paths"). D-Bus Specification, "Valid Object Paths": between the
-- slashes there are only letters, digits and `_`.
use Rattle.std.specs.Prelude.{ℕ, ◌+◌, ◌-◌, ◌*◌, ◌/◌, ◌%◌, ◌==◌, ◌||◌, Bool, List, [], ◌∷◌, ◌≡◌, false, if◌then◌else◌}
use Rattle.std.specs.Char.{is_ascii_alphanumeric, is_ascii_digit}
use Rattle.std.specs.Int.{is_in_range}
use Rattle.std.specs.Fmt.{digit_glyph}
use Rattle.std.specs.List.{flat_map}
use Rattle.kr_base.specs.Stem.{IsStem}

-- a letter, a digit or `_`
abbrev pub is_path_byte : ℕ → Bool
is_path_byte byte = is_ascii_alphanumeric byte || (byte == 95)

-- a letter or a digit stands for itself, any other byte is `_` and its two lower-case hex digits
abbrev pub escape : ℕ → List ℕ
escape byte = if is_ascii_alphanumeric byte then byte ∷ [] else 95 ∷ digit_glyph false (byte / 16) ∷ digit_glyph false (byte % 16) ∷ []

-- a stem, byte by byte
abbrev pub escaped : List ℕ → List ℕ
escaped stem = flat_map escape stem

-- the number of a hex digit in lower case; any other byte counts as 0
abbrev pub hex_value : ℕ → ℕ
hex_value digit = if is_ascii_digit digit then digit - 48 else (if is_in_range 97 102 digit then digit - 87 else 0)

-- the way back: `_` and the two bytes after it are one byte, any other byte stands for itself
abbrev pub unescaped : List ℕ → List ℕ
unescaped [] = []
unescaped (first ∷ []) = first ∷ []
unescaped (first ∷ second ∷ []) = first ∷ second ∷ []
unescaped (first ∷ high ∷ low ∷ more) =
    if first == 95 then (hex_value high * 16 + hex_value low) ∷ unescaped more else first ∷ unescaped (high ∷ low ∷ more)

-- the text is how a path spells the stem
pub record IsEscapeOf (stem text : List ℕ) : Type 0 where
  pub is_stem : IsStem stem
  pub spelled : text ≡ escaped stem
