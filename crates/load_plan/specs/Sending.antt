-- What the client of a load sends (docs/SERVICE.md, "The load").
use Rattle.std.specs.Prelude.{ℕ, suc, List, [], ◌∷◌, ◌++◌, length, nat_le, if◌then◌else◌}
use Rattle.secret_calls.specs.declared.call.Call.{Call}
use Rattle.client_core.specs.Asked.{spelled, most_bytes}
use Rattle.dbus_auth_client.specs.Openings as handshake

-- a call's message, unless it is too large
unfoldable pub sent : Call → ℕ → List ℕ
sent call serial = if nat_le (length (spelled call serial)) most_bytes then spelled call serial else []

-- the messages of these calls, with serials from this one on
abbrev pub sent_from : ℕ → List Call → List ℕ
sent_from serial [] = []
sent_from serial (call ∷ calls) = sent call serial ++ sent_from (suc serial) calls

-- all that a client of this user sends: its handshake, for which it awaits no answer, and these calls with serials from 1 on
abbrev pub conversation : ℕ → List Call → List ℕ
conversation uid calls = handshake.opening uid ++ (handshake.begin_line ++ sent_from 1 calls)
