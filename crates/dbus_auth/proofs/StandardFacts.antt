-- Worked conversations, computed from the definitions: what a client sends, and the answers.
use Rattle.std.proofs.Common.{◌≡◌, ℕ, List, [], ◌∷◌, refl, codes}
use Rattle.std.specs.Fmt.{digits}
use Rattle.hex.proofs.OnLiterals.{hex_on_literals}
use Rattle.dbus_auth.specs.Answers.{ok_line, data_line, rejected_line, error_line}
use Rattle.dbus_auth.specs.Commands.{command_of, is_accepted}
use Rattle.dbus_auth.specs.Handshake.{handshake, run, run_lines, waiting, refused, opened}
use Rattle.dbus_auth.specs.Table.{fresh}
use Rattle.dbus_auth.specs.declared.auth.AuthFault.TheVariants.{NoZero, BeginTooSoon}
use Rattle.dbus_auth.specs.declared.auth.State.TheVariants.{WaitingForData}

-- nothing has arrived yet
nothing : (uid : ℕ) (guid : List ℕ) → handshake uid guid [] ≡ record { answers = []; end = waiting (fresh uid guid) [] }
unfolding handshake
nothing uid guid = refl

-- the first byte is `A`
no_zero : (uid : ℕ) (guid : List ℕ) → handshake uid guid (65 ∷ []) ≡ record { answers = []; end = refused NoZero }
unfolding handshake
no_zero uid guid = refl

-- the client's name on its first line, as libdbus sends it
name_at_once : (guid : List ℕ) → handshake 1000 guid (0 ∷ codes "AUTH EXTERNAL 31303030\r\nBEGIN\r\n") ≡ record { answers = ok_line guid ∷ []; end = opened [] }
unfolding handshake run run_lines command_of is_accepted digits hex_on_literals
name_at_once guid = refl

-- the name left to the server, all lines in one piece as busctl sends them, and a message after them
name_left_out : (guid : List ℕ)
    → handshake 1000 guid (0 ∷ codes "AUTH EXTERNAL\r\nDATA\r\nNEGOTIATE_UNIX_FD\r\nBEGIN\r\nl\u{1}\0\u{1}")
    ≡ record { answers = data_line ∷ ok_line guid ∷ error_line ∷ []; end = opened (codes "l\u{1}\0\u{1}") }
unfolding handshake run run_lines command_of is_accepted digits hex_on_literals
name_left_out guid = refl

-- a user id with a leading zero, half a byte, a space after the digits, and no mechanism; then BEGIN comes too
-- soon, whatever follows
refused_names : (guid : List ℕ)
    → handshake 0 guid (0 ∷ codes "AUTH EXTERNAL 3030\r\nAUTH EXTERNAL 3\r\nAUTH EXTERNAL 30 \r\nAUTH\r\nBEGIN\r\nAUTH")
    ≡ record { answers = rejected_line ∷ rejected_line ∷ rejected_line ∷ rejected_line ∷ []; end = refused BeginTooSoon }
unfolding handshake run run_lines command_of is_accepted digits hex_on_literals
refused_names guid = refl

-- a CR and a LF alone belong to their line, and the last line hasn't ended
unfinished : (guid : List ℕ)
    → handshake 0 guid (0 ∷ codes "AUTH EXTERNAL\r\n\n\rDATA\r\r\nDATA\r")
    ≡ record { answers = data_line ∷ error_line ∷ []; end = waiting (record { uid = 0; guid = guid; state = WaitingForData }) (codes "DATA\r") }
unfolding handshake run run_lines command_of is_accepted digits hex_on_literals
unfinished guid = refl
