use Rattle.dbus_auth.proofs.HandshakeLemmas.{run-refused}
use Rattle.dbus_auth.proofs.handshake_laws.each_refusal_has_its_cause.Goals as goal

pub returns : goal.returns
returns c = run-refused
