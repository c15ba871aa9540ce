-- D-Bus Specification, "Authentication Protocol": the lines that the client sends.
use Rattle.std.specs.Prelude.{ℕ, List, ◌∷◌, ◌++◌, codes, decimal}
use Rattle.hex.specs.Hex.{encode_lower}
use Rattle.dbus_auth.specs.Lines.{line_end}

-- the mechanism, and the client's user id: the hex of its decimal digits
abbrev pub auth_words : ℕ → List ℕ
auth_words uid = codes "AUTH EXTERNAL " ++ encode_lower (decimal uid)

-- the same as a line, with its ending
abbrev pub auth_line : ℕ → List ℕ
auth_line uid = auth_words uid ++ line_end

-- what is sent first: a zero byte and this line
abbrev pub opening : ℕ → List ℕ
opening uid = 0 ∷ auth_line uid

-- the client begins with messages after this line
abbrev pub begin_line : List ℕ
begin_line = codes "BEGIN\r\n"
