use Rattle.dbus_auth.proofs.HandshakeLemmas.{begin-opens, begin-refused}
use Rattle.dbus_auth.proofs.handshake_laws.ok_decides_begin.Goals as goal

pub returns : goal.returns
returns c = record { opens = begin-opens; refused = begin-refused }
