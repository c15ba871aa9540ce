use Rattle.dbus_auth.proofs.HandshakeLemmas.{run-opened}
use Rattle.dbus_auth.proofs.handshake_laws.only_begin_opens.Goals as goal

pub returns : goal.returns
returns c = run-opened
