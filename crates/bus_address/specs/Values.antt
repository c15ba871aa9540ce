-- The value of a key (D-Bus Specification, "Server Addresses"): the optionally-escaped bytes stand for themselves, and any
-- byte may be written as `%` and its two hex digits.
use Rattle.std.specs.Prelude.{◌≡◌, ◌<◌, IsTrue, length, ℕ, ◌+◌, ◌*◌, ◌==◌, ◌&&◌, ◌||◌, Bool, true, List, [], ◌∷◌, if◌then◌else◌}
use Rattle.std.specs.Char.{is_ascii_alphanumeric, is_ascii_hexdigit, digit_value}

-- an optionally-escaped byte: one of [-0-9A-Za-z_/.\*]
abbrev pub is_plain : ℕ → Bool
is_plain byte = is_ascii_alphanumeric byte || ((byte == 45) || ((byte == 95) || ((byte == 47) || ((byte == 46) || ((byte == 92) || (byte == 42))))))

-- whether the text is a value: each byte is one of these, or `%` with two hex digits after it
abbrev pub is_value : List ℕ → Bool
is_value [] = true
is_value (byte ∷ []) = is_plain byte
is_value (byte ∷ next ∷ []) = is_plain byte && is_plain next
is_value (byte ∷ high ∷ low ∷ text) =
    if byte == 37 then is_ascii_hexdigit high && (is_ascii_hexdigit low && is_value text) else is_plain byte && is_value (high ∷ low ∷ text)

-- the bytes that a value stands for
abbrev pub unescaped : List ℕ → List ℕ
unescaped [] = []
unescaped (byte ∷ []) = byte ∷ []
unescaped (byte ∷ next ∷ []) = byte ∷ next ∷ []
unescaped (byte ∷ high ∷ low ∷ text) =
    if byte == 37 then (digit_value high * 16 + digit_value low) ∷ unescaped text else byte ∷ unescaped (high ∷ low ∷ text)

-- the value begins with this byte, as it is or escaped, and then comes the rest
pub record IsStep (text : List ℕ) (byte : ℕ) (rest : List ℕ) : Type 0 where
  pub read : unescaped text ≡ byte ∷ unescaped rest
  pub form : IsTrue (is_value rest)
  pub shorter : length rest < length text
