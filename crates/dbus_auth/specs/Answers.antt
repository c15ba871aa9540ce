-- D-Bus Specification, "Authentication Protocol": the lines that the server sends.
use Rattle.std.specs.Prelude.{ℕ, List, ◌++◌, codes}

-- the client is who it says, and may begin; the server's GUID, 32 hex digits, comes after the word
abbrev pub ok_line : List ℕ → List ℕ
ok_line guid = codes "OK " ++ guid ++ codes "\r\n"

-- the client should send its argument
abbrev pub data_line : List ℕ
data_line = codes "DATA\r\n"

-- the attempt has failed; the mechanisms that the server knows come after the word
abbrev pub rejected_line : List ℕ
rejected_line = codes "REJECTED EXTERNAL\r\n"

-- the server doesn't accept this line here
abbrev pub error_line : List ℕ
error_line = codes "ERROR\r\n"
