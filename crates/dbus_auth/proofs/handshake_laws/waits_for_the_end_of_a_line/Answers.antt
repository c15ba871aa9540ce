use Rattle.dbus_auth.proofs.HandshakeLemmas.{run-waits}
use Rattle.dbus_auth.proofs.handshake_laws.waits_for_the_end_of_a_line.Goals as goal

pub returns : goal.returns
returns c = run-waits
