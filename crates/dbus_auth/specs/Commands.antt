-- D-Bus Specification, "Authentication Protocol": what a line asks for.
use Rattle.std.specs.Prelude.{ℕ, ◌==◌, Bool, false, ◌||◌, if◌then◌else◌, List, [], length, Option, None, Some, unwrap_or, Result, Ok, Err, codes, decimal}
use Rattle.std.specs.Str.{bytes_eq}
use Rattle.hex.specs.Hex.{decode_of}
use Rattle.hex.specs.declared.error.FromHexError.{FromHexError}
use Rattle.dbus_auth.specs.Lines.{word_of, argument_of}
use Rattle.dbus_auth.specs.declared.command.Command.{Command}
use Rattle.dbus_auth.specs.declared.command.Command.TheVariants.{External, ExternalAccepted, OtherAuth, DataAccepted, OtherData, Cancel, Error, Begin, NegotiateUnixFd, Unknown}

-- these bytes were read
abbrev pub is_ok_with : List ℕ → Result (List ℕ) FromHexError → Bool
is_ok_with wanted (Ok bytes) = bytes_eq bytes wanted
is_ok_with wanted (Err fault) = false

-- the text is these bytes in hex, of either case
abbrev pub is_hex_of : List ℕ → List ℕ → Bool
is_hex_of text bytes = is_ok_with bytes (decode_of text)

-- the user id's decimal digits in ASCII, written in hex of either case; or the empty argument, by which
-- the client leaves its name to the server (docs/DECISIONS.md, "The empty argument is accepted")
unfoldable pub is_accepted : ℕ → List ℕ → Bool
is_accepted uid argument = length argument == 0 || is_hex_of argument (decimal uid)

-- `AUTH EXTERNAL` alone, or with what comes after its space
abbrev pub external_of : ℕ → Option (List ℕ) → Command
external_of uid None = External
external_of uid (Some argument) = if is_accepted uid argument then ExternalAccepted else OtherAuth

-- the word AUTH with its argument: a mechanism's name, and after a space the mechanism's argument
abbrev pub auth_of : ℕ → Option (List ℕ) → Command
auth_of uid None = OtherAuth
auth_of uid (Some argument) =
    if bytes_eq (word_of argument) (codes "EXTERNAL") then external_of uid (argument_of argument) else OtherAuth

-- the word DATA with its argument; none counts as an empty one
abbrev pub data_of : ℕ → Option (List ℕ) → Command
data_of uid argument = if is_accepted uid (unwrap_or argument []) then DataAccepted else OtherData

-- what a line asks for; the argument matters only with the words AUTH and DATA
unfoldable pub command_of : ℕ → List ℕ → Command
command_of uid line =
    if bytes_eq (word_of line) (codes "AUTH") then auth_of uid (argument_of line)
    else if bytes_eq (word_of line) (codes "DATA") then data_of uid (argument_of line)
    else if bytes_eq (word_of line) (codes "CANCEL") then Cancel
    else if bytes_eq (word_of line) (codes "ERROR") then Error
    else if bytes_eq (word_of line) (codes "BEGIN") then Begin
    else if bytes_eq (word_of line) (codes "NEGOTIATE_UNIX_FD") then NegotiateUnixFd
    else Unknown
