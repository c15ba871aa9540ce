use Rattle.dbus_auth.proofs.HandshakeLemmas.{handshake-nothing, handshake-zero, handshake-other}
use Rattle.dbus_auth.proofs.handshake_laws.begins_with_zero.Goals as goal

pub returns : goal.returns
returns c = record { nothing = handshake-nothing; zero = handshake-zero; other = handshake-other }
